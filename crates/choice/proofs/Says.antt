-- What the library's tests say, as `Says` has it.
use Rattle.std.specs.Prelude.{ℕ, Bool, true, false, ◌≡◌, ◌≤◌, ◌<◌, ◌==◌, ◌&&◌, ltb, leb}
use Rattle.std.specs.Bool.{Decides}
use Rattle.std.proofs.lemmas.Bool.{leb-true, le-leb, false≢true}
use Rattle.std.proofs.lemmas.Bool.Decides.{Decides-eqb, Decides-ltb}
use Rattle.std.proofs.Common.{refl}
use Rattle.choice.specs.Says.{Says}

-- what decides P says whether P holds
pub says_decided : (P : Type 0) (b : Bool) → Decides b P → Says P b
says_decided P true d = d.0 refl
says_decided P false d = λ p. false≢true (d.1 p)

pub says_eq : (a b : ℕ) → Says (a ≡ b) (a == b)
says_eq a b = says_decided (a ≡ b) (a == b) (Decides-eqb a b)

pub says_lt : (a b : ℕ) → Says (a < b) (ltb a b)
says_lt a b = says_decided (a < b) (ltb a b) (Decides-ltb a b)

pub says_le : (a b : ℕ) → Says (a ≤ b) (leb a b)
says_le a b = says_decided (a ≤ b) (leb a b) (leb-true a b, le-leb a b)

-- two tests, one after the other
pub says_both : (P Q : Type 0) (a b : Bool) → Says P a → Says Q b → Says (P × Q) (a && b)
says_both P Q true true p q = (p, q)
says_both P Q true false p q = λ r. q r.1
says_both P Q false b p q = λ r. p r.0

-- the same answer for what holds with P, and only with it
pub says_same : (P Q : Type 0) (b : Bool) → (P → Q) → (Q → P) → Says P b → Says Q b
says_same P Q true f g p = f p
says_same P Q false f g p = λ q. p (g q)
