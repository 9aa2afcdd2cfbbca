-- What is written for a stretch: the neighbour behind leaves its list, and then the block is made.
use Rattle.std.specs.Prelude.{ℕ, ◌+◌, List}
use Rattle.std.proofs.Common.{ap, sym}
use Rattle.free_list.specs.Lent.{link, link_keep}
use Rattle.free_list.specs.Written.{Written, written_then, written_as, written_length}
use Rattle.neighbours.specs.Shown.{grains_of}
use Rattle.neighbours.specs.After.{leaving_of}
use Rattle.carve.specs.Made.{left_behind}
use Rattle.stretch.specs.declared.Fit.{Fit}
use Rattle.stretch.specs.Shown.{stretch_writes}

pub stretched : (a l b m c o : List ℕ) (x s k : ℕ) (r : Fit) → Written a l (leaving_of a r.behind) b m
    → Written b m (left_behind x (s + grains_of r.behind) k r.list (link b r.head)) c o → Written a l (stretch_writes a x s k r) c o
stretched a l b m c o x s k r f g = written_then f
    (written_as (ap (left_behind x (s + grains_of r.behind) k r.list) (sym (link_keep a b r.head (written_length f)))) g)
