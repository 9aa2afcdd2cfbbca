-- allocate: p half grains at a multiple of a.
use Rattle.std.specs.Prelude.{ℕ, suc, ◌+◌, ◌-◌, ◌*◌, List, [], ◌∷◌}
use Rattle.choice.specs.Choice.{if_eq}
use Rattle.class.specs.Class.{list_of, start_of}
use Rattle.definition.specs.Calls.{wanted, place, keeps}
use Rattle.script.specs.Memory.{Next, Prev, Write}
use Rattle.script.specs.Script.{Script, first, done, ◌>>=◌, ◌>>◌, get, unless_le, must_eq}
use Rattle.tags.specs.Writes.{allocate_tags}
use Rattle.chains.specs.Links.{Head}
use Rattle.chains.specs.Steps.{Step, leave, enter}
use Rattle.plans.specs.Deeds.{Deed, Plan, plan_script}
use Rattle.plans.specs.Checks.{must_free, see_free, must_be, see_rest}

-- what is left of t grains at x when k are kept enters its list
abbrev pub rest_steps : ℕ → ℕ → ℕ → List Step
rest_steps x t k = if_eq k t [] (enter (list_of (t - k)) (x + k) ∷ [])

-- the first block of list k, at y, of s grains
pub record Taken : Type 0 where
  pub list : ℕ
  pub block : ℕ
  pub grains : ℕ

abbrev pub taken_steps : ℕ → ℕ → Taken → List Step
taken_steps p a t = leave t.list t.block ∷ rest_steps t.block t.grains (keeps (place a t.block) p)

abbrev pub taken_tags : ℕ → ℕ → Taken → List Write
taken_tags p a t = allocate_tags t.block t.grains (keeps (place a t.block) p) (place a t.block)

abbrev pub allocate_deed : ℕ → ℕ → Taken → Deed
allocate_deed p a t = record {
  answer = 2 * t.block + place a t.block;
  moved = 0;
  early = taken_steps p a t;
  late = [];
  guards = t.block ∷ [];
  records = taken_tags p a t;
}

-- the head y of list k is a free block of that list, and the first of it
unfoldable pub see_first : ℕ → ℕ → ℕ → Script ℕ
see_first n k y = do
  s ← see_free n y
  must_eq (list_of s) k
  must_be Prev y y
  x ← get Next y
  _ ← must_free n x
  must_be Prev x y
  done s

unfoldable pub see_taken : ℕ → ℕ → ℕ → ℕ → Script Taken
see_taken n c p a = do
  k ← first (16 * c - start_of (wanted p a)) (start_of (wanted p a)) (λ v. done v)
  unless_le 1 (suc k) (16 * c)
  y ← get Head k
  s ← see_first n k y
  see_rest n c s (keeps (place a y) p)
  done (record { list = k; block = y; grains = s })

unfoldable pub allocate_script : ℕ → ℕ → ℕ → ℕ → Script Plan
allocate_script n c p a = do
  t ← see_taken n c p a
  plan_script (allocate_deed p a t)
