-- `entries::join_links`: the two words, one after the other.
use mathlib.Core.Path.{◌∙◌}
use Rattle.lent.proofs.Kept.{next_grains}
use Rattle.entries.specs.Seen.{chosen_is}
use Rattle.entries.proofs.join_links.Goals as goal

pub put_prev-requires : goal.put_prev-requires
put_prev-requires c =
    rw c.put_next.ensures (next_grains c.args.a.now c.args.p c.choose.result c.args.x c.requires.0)

pub returns : goal.returns
returns c =
    let s = c.args in
    c.put_prev.ensures
    ∙ rw (c.choose-2.ensures, c.put_next.ensures, c.choose.ensures, chosen_is s.x s.y s.p s.x, chosen_is s.p s.y s.x s.p)
