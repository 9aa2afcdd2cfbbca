-- `entries::Links::enter`: the links, the head, and the mark.
use mathlib.Core.Path.{sym, ◌∙◌}
use Rattle.lent.proofs.Fields.{mark_set}
use Rattle.entries.specs.Stepped.{entered}
use Rattle.entries.specs.Heads.{first_is}
use Rattle.entries.proofs.Links.enter.Goals as goal

pub returns-clause-stepped : goal.returns-clause-stepped
returns-clause-stepped c =
    let s = c.args in
    entered s.k s.y c.choose-first.result
    (first_is s.self.now.lists.now s.k s.y c.head-head.result c.choose-first.result c.head-head.ensures c.is_marked.result c.is_marked.ensures c.choose-first.ensures)
    c.put_before.ensures (c.mark.ensures ∙ rw c.put_head.ensures (sym (mark_set _ s.k)))
