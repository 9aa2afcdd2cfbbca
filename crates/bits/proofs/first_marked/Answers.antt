-- `bits::first_marked` meets its contract: k's word has the answer, or the words behind it have. Assumes nothing.
use Rattle.std.proofs.Common.{rules}
use Rattle.bits.proofs.Search.{goes_on, at_end_lem}
use Rattle.bits.proofs.first_marked.Goals as goal

pub returns-then-k-ge-LISTS : goal.returns-then-k-ge-LISTS
returns-then-k-ge-LISTS c = (at_end_lem c.args.t.now c.args.k c.if-k-ge-LISTS.true c.requires.1, tt)

pub returns : goal.returns
returns c =
    goes_on c.args.t.now c.args.k c.first_of_word.result c.or_else.result _ c.if-k-ge-LISTS.false c.first_of_word.ensures c.or_else.ensures (λ p. search rules)
