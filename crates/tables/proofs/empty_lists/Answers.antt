-- `tables::empty_lists` meets its contract: the map is filled, and then the heads. Assumes nothing.
use native.Mathlib.Omega.{arith}
use mathlib.Core.Path.{◌≡◌, ap, ◌∙◌}
use mathlib.Core.List.{◌++◌}
use lib.ListN.{drop}
use Rattle.slices.specs.Decode.{head_bytes, top_of}
use Rattle.tables.specs.Initial.{empty_lists}
use Rattle.tables.specs.Fill.{filled, filled_length}
use Rattle.tables.proofs.Fill.{filled_part}
use Rattle.tables.proofs.empty_lists.Goals as goal

pub returns : goal.returns
unfolding empty_lists
returns c =
    let t = c.args.lists.now in
    let u = c.fill.new.t ++ drop 3 t in
    let a : u ≡ filled t 0 3 0 = filled_part t c.fill.new.t 0 3 0 (omega (arith, c.requires)) c.fill.ensures in
    let b = filled_part u c.fill-2.new.t 3 192 (top_of head_bytes) (rw a (omega (arith, filled_length t 0 3 0, c.requires))) c.fill-2.ensures in
    b ∙ ap (λ x. filled x 3 192 (top_of head_bytes)) a
