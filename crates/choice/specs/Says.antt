-- What a function that answers yes or no says: with `true` that P holds, with `false` that it doesn't.
use Rattle.std.specs.Prelude.{◌≡◌, Bool, true, false}
use Rattle.std.proofs.Common.{subst}

abbrev pub Says : Type 0 → Bool → Type 0
Says P true = P
Says P false = P → ⊥

-- yes: it holds
pub says_yes : (P : Type 0) (b : Bool) → Says P b → b ≡ true → P
says_yes P b s e = subst (λ (x : Bool). Says P x) e s

-- no: it doesn't
pub says_no : (P : Type 0) (b : Bool) → Says P b → b ≡ false → P → ⊥
says_no P b s e = subst (λ (x : Bool). Says P x) e s
