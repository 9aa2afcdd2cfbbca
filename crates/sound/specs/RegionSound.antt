-- Giving a region does what the definition says: on a sound memory it is refused with 4 exactly where the definition
-- refuses, and else what is written stands for the heap after the call. Nothing is refused with 5.
use Rattle.sound.specs.RegionPlan.{Looked}

-- ---- the script

-- before the first entry
abbrev pub nothing_seen : Looked
nothing_seen = record { meets = 0; wrong = 0 }
