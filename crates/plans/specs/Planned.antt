-- What a script plans for a deed is what the deed writes; and what the search for a block to hand out has checked.
use Rattle.std.specs.Prelude.{ℕ, ◌-◌, ◌*◌, ◌<◌, ◌≡◌}
use Rattle.bits.specs.First.{first_set}
use Rattle.class.specs.Class.{list_of, start_of}
use Rattle.definition.specs.Calls.{wanted, place, keeps}
use Rattle.script.specs.Memory.{Memory, Next, Prev, Mark}
use Rattle.script.specs.Script.{must_eq}
use Rattle.script.proofs.Script.{inv_bind}
use Rattle.chains.specs.Links.{Head}
use Rattle.chains.specs.Closed.{Headed}
use Rattle.plans.specs.Checked.{FreeTag, WholeFree}
use Rattle.plans.specs.Allocate.{Taken}

-- ---- the block that is handed out

pub record TakenChecked (n c p a : ℕ) (m : Memory) (t : Taken) : Type 0 where
  pub first : t.list ≡ first_set (m Mark) (16 * c - start_of (wanted p a)) (start_of (wanted p a))
  pub small : t.list < 16 * c
  pub head : t.block ≡ m Head t.list
  pub whole : WholeFree n m t.block t.grains
  pub class : list_of t.grains ≡ t.list
  pub alone : m Prev t.block ≡ t.block
  pub next : FreeTag n m (m Next t.block)
  pub next_back : m Prev (m Next t.block) ≡ t.block
  pub rest : (keeps (place a t.block) p ≡ t.grains → ⊥) → Headed (FreeTag n m) m (list_of (t.grains - keeps (place a t.block) p))
