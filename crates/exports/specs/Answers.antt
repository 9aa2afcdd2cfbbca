-- A call's answer as C hears it, one number: what was granted, or the number of a refusal. 1 to 6 are the refusals, and no
-- granted answer is one of them: so the number alone says which of the two it is.
use Rattle.std.specs.Prelude.{ℕ, ◌≤◌, ◌≡◌, refl}
use Rattle.std.proofs.Common.{ap, sym, subst}
use Rattle.sound.specs.Runs.{Reply, yes, not}

-- the numbers of the refusals
pub record Refusal (i : ℕ) : Type 0 where
  pub some : 1 ≤ i
  pub most : i ≤ 6

-- the number of a reply
abbrev pub number_of : Reply → ℕ
number_of (yes v) = v
number_of (not i) = i

-- v is the answer of a call of which P is promised, and whose granted answers are as Q says
pub record Answers (P : Reply → Type 0) (Q : ℕ → Type 0) (v : ℕ) : Type 0 where
  -- the call's reply, with all that is promised of it
  pub reply : Reply
  pub promise : P reply
  pub number : v ≡ number_of reply
  -- what can be granted, and with which numbers it is refused
  pub granted : (x : ℕ) → reply ≡ yes x → Q x
  pub refused : (i : ℕ) → reply ≡ not i → Refusal i
  -- the two are never confused
  pub apart : (x : ℕ) → reply ≡ yes x → Refusal x → ⊥

-- ---- what a caller concludes from the number alone

refusal_is : (v : ℕ) (r : Reply) → v ≡ number_of r → ((x : ℕ) → r ≡ yes x → Refusal x → ⊥) → Refusal v → r ≡ not v
refusal_is v (yes x) e f h = absurd (f x refl (subst Refusal e h))
refusal_is v (not i) e f h = ap not (sym e)

grant_is : (v : ℕ) (r : Reply) → v ≡ number_of r → ((i : ℕ) → r ≡ not i → Refusal i) → (Refusal v → ⊥) → r ≡ yes v
grant_is v (yes x) e f h = ap yes (sym e)
grant_is v (not i) e f h = absurd (h (subst Refusal (sym e) (f i refl)))

module _ (P : Reply → Type 0) (Q : ℕ → Type 0) (v : ℕ) (a : Answers P Q v) where
  -- one of 1 to 6: it was refused with this number
  pub heard_refusal : Refusal v → a.reply ≡ not v
  heard_refusal = refusal_is v a.reply a.number a.apart

  -- any other: it was granted
  pub heard_grant : (Refusal v → ⊥) → a.reply ≡ yes v
  heard_grant = grant_is v a.reply a.number a.refused
