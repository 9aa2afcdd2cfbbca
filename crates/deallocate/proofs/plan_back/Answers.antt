-- `deallocate::plan_back`: refused as its owner is refused, or all hangs on the block that was found.
use mathlib.Core.Path.{◌∙◌}
use Rattle.std.specs.Prelude.{[]}
use Rattle.std.proofs.lemmas.Result.{err_from_is_err_and}
use Rattle.neighbours.specs.Within.{owner_within}
use Rattle.deallocate.specs.Join.{back_refused, back_found}
use Rattle.deallocate.proofs.plan_back.Goals as goal

pub returns-in_err-o : goal.returns-in_err-o
returns-in_err-o c =
    let s = c.args in
    let p = err_from_is_err_and c.from_residual.result c.from_residual.ensures.1 in
    rw (p.1, p.2) (record { answer = λ t. back_refused s.a.now s.lists.now s.live.now t s.q c.in_err-o.field-0.0 c.in_err-o.ensures; able = tt })

pub plan_merge-requires : goal.plan_merge-requires
plan_merge-requires c =
    let i = owner_within c.args.a.now [] c.args.live.now [] c.args.q c.in_ok-o.o (c.in_ok-o.ensures [] []) in
    (i.0, i.1, c.requires.2)

pub returns : goal.returns
returns c =
    let s = c.args in record {
      answer = λ t. c.plan_merge.ensures.answer s.q s.live.now t ∙ back_found s.a.now s.lists.now s.live.now t s.q c.in_ok-o.o c.in_ok-o.ensures;
      able = c.plan_merge.ensures.able;
    }
