-- The lent slices are the same ones after a call, with other numbers in them.
use Rattle.std.specs.Prelude.{◌≡◌}
use Rattle.heap.specs.declared.Heap.{Heap}

abbrev pub SameSlices : Heap → Heap → Type 0
SameSlices w v =
    (v.arena.ghost_name ≡ w.arena.ghost_name) × (v.lists.ghost_name ≡ w.lists.ghost_name)
    × (v.live.ghost_name ≡ w.live.ghost_name) × (v.regions.ghost_name ≡ w.regions.ghost_name)
