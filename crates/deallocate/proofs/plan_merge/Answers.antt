-- `deallocate::plan_merge`: what stands before the block agrees, or the call is refused; all else hangs on what stands there.
use Rattle.std.proofs.lemmas.Result.{err_from_is_err_and}
use Rattle.deallocate.specs.Join.{merge_cut}
use Rattle.deallocate.proofs.plan_merge.Goals as goal

pub returns-in_err-see_before : goal.returns-in_err-see_before
returns-in_err-see_before c =
    let s = c.args in
    let p = err_from_is_err_and c.from_residual.result c.from_residual.ensures.1 in
    rw (p.1, p.2) (record { answer = λ q v t. merge_cut s.a.now s.lists.now v t q s.x s.s c.in_err-see_before.field-0.0 c.in_err-see_before.ensures; able = tt })
