-- T11, insert and append: on any memory whose tags and regions are those of blocks, they are refused, or the region is given as the
-- definition says.
use Rattle.sound.specs.RegionPlan.{Looked}

-- ---- what was looked at

abbrev pub nothing_seen : Looked
nothing_seen = record { meets = 0; wrong = 0 }
