-- The lent slices that are read, as a memory; and those that are written, which stay the same slices.
use Rattle.std.specs.Prelude.{ℕ, ◌≡◌, List}
use Rattle.script.specs.Memory.{Memory}
use Rattle.lent.specs.Slices.{grains}
use Rattle.entries.specs.declared.Lent.{Lent}
use Rattle.entries.specs.declared.Tagged.{Tagged}
use Rattle.entries.specs.declared.Links.{Links}
use Rattle.entries.specs.Answers.{held, Enough}

-- the arena and the tags, with any lists and any table of the regions
abbrev pub tagged_memory : Tagged → List ℕ → List ℕ → Memory
tagged_memory h l g = held h.arena.now l h.tags.now g

-- how many grains there are
abbrev pub tagged_grains : Tagged → ℕ
tagged_grains h = grains h.arena.now

-- the same with the lists
abbrev pub memory_in : Lent → List ℕ → Memory
memory_in h g = tagged_memory h.tagged h.lists.now g

abbrev pub grains_in : Lent → ℕ
grains_in h = tagged_grains h.tagged

-- they are long enough
pub enough : (h : Lent) → Enough h.tagged.arena.now h.lists.now h.tagged.tags.now
enough h = record { lists = h.listed; tags = h.tagged.covered }

-- afterwards they are the same slices, with other words in them
abbrev pub SameLinks : Links → Links → Type 0
SameLinks w v = (v.arena.ghost_name ≡ w.arena.ghost_name) × (v.lists.ghost_name ≡ w.lists.ghost_name)
