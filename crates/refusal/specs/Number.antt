-- The number of a refusal, which C, the record of calls and the scripts hear.
use Rattle.std.specs.Prelude.{ℕ, ◌≡◌, ◌≤◌, ◌<◌, Result, MatchResult}
use Rattle.refusal.specs.declared.Refusal.{Refusal}
use Rattle.refusal.specs.declared.Refusal.TheVariants.{NoList, OutOfRange, NotLive, Misplaced, Damaged, TooShort}
use Rattle.refusal.specs.declared.NoRefusal.{NoRefusal}

abbrev pub number : Refusal → ℕ
number NoList = 1
number OutOfRange = 2
number NotLive = 3
number Misplaced = 4
number Damaged = 5
number TooShort = 6

-- the refusal of a number, or a number that is none's
abbrev pub Numbered : ℕ → Result Refusal NoRefusal → Type 0
Numbered n r = MatchResult r (λ refusal. number refusal ≡ n) (λ e. (e.0 ≡ n) × (1 ≤ n → 6 < n))
