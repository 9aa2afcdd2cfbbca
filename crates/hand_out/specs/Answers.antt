-- The answer of a search, read as the result of its script.
use Rattle.std.specs.Prelude.{Result, Ok, Err}
use Rattle.script.specs.Script.{ok, no}
use Rattle.script.specs.Script.{Result as Answer}
use Rattle.plans.specs.Allocate.{Taken}
use Rattle.refusal.specs.Number.{number}
use Rattle.refusal.specs.declared.Refusal.{Refusal}
use Rattle.hand_out.specs.Demand.{power_align}
use Rattle.hand_out.specs.Demand.{Demand as Demanded}
use Rattle.hand_out.specs.declared.Taking.{Taking}
use Rattle.hand_out.specs.declared.demand.Demand.{Demand}

abbrev pub taken_of : Taking → Taken
taken_of t = record { list = t.list; block = t.block; grains = t.grains }

abbrev pub taking : Result Taking Refusal → Answer Taken
taking (Ok t) = ok (taken_of t)
taking (Err r) = no (number r)

-- what is known of what is asked for
pub demanded : (d : Demand) → Demanded d.length d.multiple
demanded d = record { power = d.power; align = power_align d.multiple d.power; most = d.most; fits = d.fits }
