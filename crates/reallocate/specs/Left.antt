-- The old block is left, once another was taken: the payload is carried and the block returned; or its return is refused,
-- and the take is undone.
use Rattle.std.specs.Prelude.{ℕ, ◌+◌, ◌*◌, ◌≤◌, ◌≡◌, List, length, Result, Ok, Err, ⊤}
use Rattle.std.proofs.Common.{arith, ap, sym, ◌∙◌}
use Rattle.copy.specs.Moved.{moved}
use Rattle.script.specs.Memory.{Write}
use Rattle.script.specs.Script.{ok, no, run}
use Rattle.sound.specs.Plans.{Plan, give_back_script}
use Rattle.slices.specs.Decode.{grains}
use Rattle.slices.proofs.Decode.{grains_le}
use Rattle.slices.specs.Slices.{stores}
use Rattle.carry.specs.Carry.{shifted}
use Rattle.free_list.specs.Lent.{lent, held, classes}
use Rattle.refusal.specs.Number.{number}
use Rattle.refusal.specs.declared.Refusal.{Refusal}
use Rattle.free_list.specs.Written.{WrittenLive}
use Rattle.deallocate.specs.declared.Plan.{Plan as BackPlan}
use Rattle.deallocate.specs.Shown.{back_writes, BackPlanned, back_keep}
use Rattle.undo.specs.declared.Saved.{Saved}
use Rattle.undo.specs.Undone.{Undone}

-- half grains up to the end of the last grain are bytes of the arena
pub halves_inside : (a : List ℕ) (q u : ℕ) → q + u ≤ 2 * grains 8 a → 16 * (q + u) ≤ length a
halves_inside a q u h = omega (arith, grains_le 8 a)

-- a return writes these
abbrev pub returning : List Write → Plan
returning w = record { answer = 0; writes = w; moved = 0; early = 0 }

-- the payload at q, of which u half grains are carried, leaves its block for the half grain z; s was saved before the take
-- that made a, l and v. It is returned, or refused and the take is undone
abbrev pub Leaves : List ℕ → List ℕ → List ℕ → ℕ → ℕ → ℕ → Saved → Result ⊤ Refusal → List ℕ → List ℕ → List ℕ → Type 0
Leaves a l v q z u s (Ok d) b m o = (w : List Write) × ((t : List ℕ) → run (held a l v t) (give_back_script (grains 8 a) classes q) ≡ ok (returning w))
    × ((t : List ℕ) → lent b m o t ≡ stores 8 (shifted (lent a l v t) q z u) w)
Leaves a l v q z u s (Err r) b m o = ((t : List ℕ) → run (held a l v t) (give_back_script (grains 8 a) classes q) ≡ no (number r)) × Undone a l v s b m o

module _ (a l v : List ℕ) (q z u : ℕ) (s : Saved) where
  -- the return is refused
  pub left_refused : (r : Refusal) → BackPlanned a l v q (Err r) → (b m o : List ℕ) → Undone a l v s b m o → Leaves a l v q z u s (Err r) b m o
  left_refused r h b m o f = ((λ t. sym (h.answer t)), f)

  -- done: what is written hangs on the arena's length alone
  pub left_done : (r : BackPlan) → BackPlanned a l v q (Ok r) → (c b m o : List ℕ) → length c ≡ length a → c ≡ moved a (16 * q) (16 * z) (16 * u)
      → WrittenLive c l v (back_writes c q r) b m o → Leaves a l v q z u s (Ok tt) b m o
  left_done r h c b m o k f w = (
    back_writes a q r,
    (λ t. sym (h.answer t)),
    λ t. w.slices t ∙ ap (stores 8 (lent c l v t)) (back_keep a c q r k) ∙ ap (λ (x : List ℕ). stores 8 (lent x l v t) (back_writes a q r)) f,
  )
