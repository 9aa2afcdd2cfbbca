-- An answer of the code, read as a script's result: what was found, or the number of a refusal.
use Rattle.std.specs.Prelude.{Result, Ok, Err}
use Rattle.script.specs.Script.{ok, no}
use Rattle.script.specs.Script.{Result as Answer}
use Rattle.refusal.specs.Number.{number}
use Rattle.refusal.specs.declared.Refusal.{Refusal}

abbrev pub answered : {A : Type 0} → Result A Refusal → Answer A
answered (Ok x) = ok x
answered (Err r) = no (number r)

-- the same of what was found, as f reads it
abbrev pub answered_as : {A B : Type 0} → (A → B) → Result A Refusal → Answer B
answered_as f (Ok x) = ok (f x)
answered_as f (Err r) = no (number r)
