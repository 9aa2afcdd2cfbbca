-- How many tags a change writes, and where: each write is to the field of tags, lies inside the grains that change, and
-- its count is at most their number. It holds on any memory.
use Rattle.std.specs.Prelude.{ℕ, ◌+◌, ◌/◌, ◌≤◌, ◌<◌, ◌≡◌}
use Rattle.script.specs.Memory.{Write}
use Rattle.tags.specs.Tag.{Tag, flags}

-- ---- to the field of tags alone

abbrev pub ToTag : Write → Type 0
ToTag w = w.field ≡ Tag

-- ---- where: inside the n grains at x, with a count of at most n

abbrev pub Within : ℕ → ℕ → Write → Type 0
Within x n w = (x ≤ w.place) × (w.place < x + n) × (w.value / flags ≤ n)
