-- `firmheap::insert_free_block`: the whole grains among the bytes are laid out, and the answer is counted from the given start.
use native.Mathlib.Omega.{arith}
use mathlib.Core.Path.{refl}
use Prim.Native.Nat.{◌+◌, ◌*◌, ◌^◌, ◌<◌}
use Rattle.std.proofs.lemmas.Result.{err_from_is_err_and}
use Rattle.firmheap.specs.Give.{insert_done, insert_fits, insert_refused}
use Rattle.firmheap.proofs.insert_free_block.Goals as goal
use Rattle.firmheap.proofs.insert_free_block.Goals.{After-bytes_before}

-- the answer is a number of 64 bits
fits : (c : After-bytes_before) → c.bytes_before.result + 32 * c.in_ok-s.s < 2 ^ 64
fits c =
    insert_fits c.args.arena.now c.args.lists.now c.args.regions.now c.args.start c.args.len c.well_formed.0.0 c.first_grain-g.result c.whole_grains-n.result _ _ _ _
    c.first_grain-g.ensures c.whole_grains-n.ensures c.in_ok-s.ensures c.bytes_before.result c.in_ok-s.s c.bytes_before.ensures refl

pub returns-in_err-s : goal.returns-in_err-s
returns-in_err-s c =
    let p = err_from_is_err_and c.from_residual.result c.from_residual.ensures.1 in
    rw (p.1, p.2) (insert_refused _ _ _ c.args.start c.args.len c.well_formed.0.0 _ _ _ _ _ _ c.first_grain-g.ensures c.whole_grains-n.ensures c.in_err-s.ensures _ refl)

pub overflow_add-result : goal.overflow_add-result
overflow_add-result c = omega (arith, fits (goal.at.overflow_add-result c).After-bytes_before)

pub overflow_mul-result : goal.overflow_mul-result
overflow_mul-result c = omega (arith, fits (goal.at.overflow_mul-result c).After-bytes_before)

pub returns : goal.returns
returns c =
    insert_done _ _ _ c.args.start c.args.len c.well_formed.0.0 _ _ _ _ _ _
    c.first_grain-g.ensures c.whole_grains-n.ensures c.in_ok-s.ensures _ _ c.bytes_before.ensures refl
