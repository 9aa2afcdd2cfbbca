-- The answer of the checks, read as the result of their script.
use Rattle.std.specs.Prelude.{Result, Ok, Err}
use Rattle.script.specs.Script.{ok, no}
use Rattle.script.specs.Script.{Result as Answer}
use Rattle.refusal.specs.Number.{number}
use Rattle.refusal.specs.declared.Refusal.{Refusal}
use Rattle.take_back.specs.Returned.{Freed}
use Rattle.take_back.specs.declared.Returned.{Returned}

abbrev pub freed_of : Returned → Freed
freed_of r = record { at = r.block.at; grains = r.block.grains; before = r.before; after = r.after }

abbrev pub returned : Result Returned Refusal → Answer Freed
returned (Ok x) = ok (freed_of x)
returned (Err r) = no (number r)
