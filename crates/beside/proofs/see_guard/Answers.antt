-- `beside::see_guard`: what `lent::is_guarded` says is the check's answer.
use Rattle.choice.specs.Says.{says_yes, says_no}
use Rattle.beside.specs.Owns.{guard_decides}
use Rattle.beside.proofs.see_guard.Goals as goal

pub returns-then-not-is_guarded : goal.returns-then-not-is_guarded
returns-then-not-is_guarded c l t g =
    (guard_decides c.args.a.now l t g c.args.x).refuses (says_no _ c.is_guarded.result c.is_guarded.ensures c.if-not-is_guarded.true)

pub returns : goal.returns
returns c l t g =
    (guard_decides c.args.a.now l t g c.args.x).gives (says_yes _ c.is_guarded.result c.is_guarded.ensures c.if-not-is_guarded.false)
