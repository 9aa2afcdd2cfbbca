-- `free_list::see_head`: each return is one law of a head that is seen.
use native.Mathlib.Omega.{arith}
use Rattle.free_list.specs.Headed.{headed_marked, headed_empty, headed_unmarked, headed_outside, headed_behind, headed_first}
use Rattle.free_list.proofs.see_head.Goals as goal

pub returns-then-marked : goal.returns-then-marked
returns-then-marked c =
    headed_marked c.args.a.now c.args.lists.now c.args.k c.head_of-word.result c.well_formed.0.0 c.requires.known c.head_of-word.ensures c.if-word.true c.if-marked.ensures

pub returns-then-word : goal.returns-then-word
returns-then-word c =
    headed_empty c.args.a.now c.args.lists.now c.args.k c.head_of-word.result c.well_formed.0.0 c.requires.known c.head_of-word.ensures c.if-word.true c.if-marked.ensures

pub returns-then-not-marked : goal.returns-then-not-marked
returns-then-not-marked c =
    headed_unmarked c.args.a.now c.args.lists.now c.args.k c.head_of-word.result c.well_formed.0.0 c.requires.known c.head_of-word.ensures c.if-word.false
    c.if-not-marked.ensures

pub returns-then-count-g : goal.returns-then-count-g
returns-then-count-g c =
    headed_outside c.args.a.now c.args.lists.now c.args.k c.head_of-word.result c.well_formed.0.0 c.requires.known c.head_of-word.ensures c.if-word.false
    c.grain_of-g.result c.grain_of-g.ensures (omega arith)

pub returns-then-field : goal.returns-then-field
returns-then-field c =
    headed_behind c.args.a.now c.args.lists.now c.args.k c.head_of-word.result c.well_formed.0.0 c.requires.known c.head_of-word.ensures c.if-word.false
    c.if-not-marked.ensures c.grain_of-g.result c.field.result c.grain_of-g.ensures (omega arith) c.field.ensures c.if-field.true

pub returns : goal.returns
returns c =
    headed_first c.args.a.now c.args.lists.now c.args.k c.head_of-word.result c.well_formed.0.0 c.requires.known c.head_of-word.ensures c.if-word.false
    c.if-not-marked.ensures c.grain_of-g.result c.field.result c.grain_of-g.ensures (omega arith) c.field.ensures c.if-field.false
