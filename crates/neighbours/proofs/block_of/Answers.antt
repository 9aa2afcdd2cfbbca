-- `neighbours::block_of`: each return is one step of the script.
use Rattle.neighbours.specs.Owner.{block_first, block_past, block_before}
use Rattle.neighbours.proofs.block_of.Goals as goal

pub returns-then-g-eq0 : goal.returns-then-g-eq0
returns-then-g-eq0 c = block_first c.args.a.now c.args.q c.requires.0 c.requires.1 c.if-g-eq0.true

pub returns-then-g-x : goal.returns-then-g-x
returns-then-g-x c =
    block_past c.args.a.now c.args.q c.requires.0 c.requires.1 c.well_formed.0.0
    c.field.result c.grain_of-x.result c.field.ensures c.grain_of-x.ensures c.if-g-x.true

pub returns : goal.returns
returns c =
    block_before c.args.a.now c.args.q c.requires.0 c.requires.1 c.well_formed.0.0
    c.field.result c.grain_of-x.result c.field.ensures c.grain_of-x.ensures c.if-g-x.false
