-- `neighbours::see_end`: what is behind the block leads back to it, or doesn't.
use native.Mathlib.Omega.{arith}
use Rattle.choice.specs.Says.{says_yes, says_no}
use Rattle.header.specs.Turned.{grains_few}
use Rattle.neighbours.specs.Owner.{end_torn, end_found}
use Rattle.neighbours.proofs.see_end.Goals as goal

pub overflow_add-x : goal.overflow_add-x
overflow_add-x c = omega (arith, c.requires, grains_few c.args.a.now c.well_formed.0.0)

pub returns-then-not-leads : goal.returns-then-not-leads
returns-then-not-leads c l v t =
    end_torn c.args.a.now l v t c.args.x c.args.s c.requires (says_no _ c.leads.result c.leads.ensures c.if-not-leads.true)

pub returns : goal.returns
returns c l v t =
    end_found c.args.a.now l v t c.args.x c.args.s c.requires (says_yes _ c.leads.result c.leads.ensures c.if-not-leads.false)
