-- What follows from specs/Members.antt.
use Rattle.std.specs.Prelude.{ℕ, refl, List, [], ◌∷◌}
use Rattle.std.proofs.Common.{ap, sym, ◌∙◌, inl, inr}
use Rattle.choice.specs.Choice.{eq_yes, eq_no}
use Rattle.definition.specs.Lists.{remove}
use Rattle.invariants.specs.Members.{Mem, NoDup, Parts}

-- ---- one list without one of its members

pub parts : (y : ℕ) (l : List ℕ) → NoDup l → Mem y l → Parts y l
unfolding remove
parts y [] d x'' = elim x'' [ ]
parts y (z ∷ l) d (inl e) = record { front = []; back = l; is = rw e refl; less = eq_yes z y _ _ (sym e) }
parts y (z ∷ l) d (inr h) =
    let p = parts y l d.1 h in
    record {
      front = z ∷ p.front;
      back = p.back;
      is = ap (λ (a : List ℕ). z ∷ a) p.is;
      less = eq_no z y _ _ (λ e. d.0 (rw e h)) ∙ ap (λ (a : List ℕ). z ∷ a) p.less;
    }
