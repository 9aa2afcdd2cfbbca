-- Who writes the table of regions: on any memory, take, return and resize leave it alone, and a region that is given
-- raises the number of regions by one.
use Rattle.script.specs.Memory.{Table, Untouched}
use Rattle.sound.specs.Plans.{Plan}

-- ---- take, return and resize

-- a plan that leaves the table alone
abbrev pub Spared : Plan → Type 0
Spared t = Untouched Table t.writes
