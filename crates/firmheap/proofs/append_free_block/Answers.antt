-- `firmheap::append_free_block`: the whole grains from a grain on are laid out behind another region.
use native.Mathlib.Omega.{arith}
use mathlib.Core.Path.{refl}
use Rattle.std.proofs.lemmas.Result.{err_from_is_err_and}
use Rattle.firmheap.specs.Give.{append_done, append_fits, append_refused}
use Rattle.firmheap.proofs.append_free_block.Goals as goal

pub returns-in_err-s : goal.returns-in_err-s
returns-in_err-s c =
    let p = err_from_is_err_and c.from_residual.result c.from_residual.ensures.1 in
    rw (p.1, p.2) (append_refused _ _ _ c.args.start c.args.len c.well_formed.0.0 _ _ _ _ _ _ refl c.following_grains-n.ensures c.in_err-s.ensures _ refl)

pub overflow_mul-result : goal.overflow_mul-result
overflow_mul-result c =
    omega (
      arith,
      append_fits c.args.arena.now c.args.lists.now c.args.regions.now c.args.start c.args.len c.well_formed.0.0 _ c.following_grains-n.result _ _ _ _
          refl c.following_grains-n.ensures c.in_ok-s.ensures c.in_ok-s.s refl,
    )

pub returns : goal.returns
returns c =
    append_done _ _ _ c.args.start c.args.len c.well_formed.0.0 _ _ _ _ _ _ refl c.following_grains-n.ensures c.in_ok-s.ensures _ refl
