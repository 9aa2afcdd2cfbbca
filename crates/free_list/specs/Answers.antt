-- What the code answers, read as a script's result: what was found, or a refusal.
use Rattle.std.specs.Prelude.{ℕ, zero, suc, ◌≡◌, refl, Bool, true, false}
use Rattle.std.proofs.Common.{ap}
use Rattle.script.specs.Script.{Result, ok, no}

-- x where a check passed, else refusal 5
abbrev pub answer : {A : Type 0} → Bool → A → Result A
answer true x = ok x
answer false x = no 5

-- a check that answers nothing more
abbrev pub told : Bool → Result (Unit {0})
told r = answer r (tt {0})

-- x, unless refused: with a refusal that is not 0
abbrev pub unless : {A : Type 0} → ℕ → A → Result A
unless zero x = ok x
unless (suc r) x = no (suc r)

-- refused with a number that is not 0, and not refused with 0
pub unless_no : {A : Type 0} (r : ℕ) (x : A) → (r ≡ 0 → ⊥) → unless r x ≡ no r
unless_no zero x n = absurd (n refl)
unless_no (suc r) x n = refl

pub unless_ok : {A : Type 0} (r : ℕ) (x : A) → r ≡ 0 → unless r x ≡ ok x
unless_ok r x e = ap (λ (u : ℕ). unless u x) e
