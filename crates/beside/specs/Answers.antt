-- What the contracts speak of: the answer on a payload, read as a script's result.
use Rattle.std.specs.Prelude.{Result, Ok, Err}
use Rattle.script.specs.Script.{ok, no}
use Rattle.script.specs.Script.{Result as Answer}
use Rattle.plans.specs.Checks.{Owner}
use Rattle.refusal.specs.Number.{number}
use Rattle.refusal.specs.declared.Refusal.{Refusal}
use Rattle.beside.specs.declared.Block.{Block}

-- a block, as the scripts have it
abbrev pub owner_of : Block → Owner
owner_of b = record { at = b.at; grains = b.grains }

-- the payload's block, or why there is none
abbrev pub owning : Result Block Refusal → Answer Owner
owning (Ok b) = ok (owner_of b)
owning (Err r) = no (number r)
