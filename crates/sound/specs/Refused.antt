-- With which numbers the checks refuse, on any memory: a contradiction with 5, a payload that is not live with 3. With
-- `Checked` it follows that what a check tells is refused with 5 where it doesn't hold.
use Rattle.std.specs.Prelude.{ℕ}
use Rattle.script.specs.Script.{Script, read, first, done, stop}

-- ---- every number that a script may refuse with

abbrev pub Stops : {A : Type 0} → (ℕ → Type 0) → Script A → Type 0
Stops P (read f x k) = (v : ℕ) → Stops P (k v)
Stops P (first n x k) = (v : ℕ) → Stops P (k v)
Stops P (done a) = Unit {0}
Stops P (stop r) = P r
