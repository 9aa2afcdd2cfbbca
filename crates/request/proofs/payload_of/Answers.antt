-- `request::payload_of`: past the first test there is an alignment, past the second the offset is a multiple of it.
use Rattle.request.specs.Returned.{unsuited_rest, returned_large, returned_small, returned_none}
use Rattle.request.proofs.payload_of.Goals as goal

pub returns-then-offset-align-ne0 : goal.returns-then-offset-align-ne0
returns-then-offset-align-ne0 c = unsuited_rest c.args.offset c.args.align c.if-offset-align-ne0.true

pub returns-then-align-ge-GRAIN : goal.returns-then-align-ge-GRAIN
returns-then-align-ge-GRAIN c =
    returned_large c.args.offset c.args.align c.if-not-is_alignment.ensures c.if-offset-align-ne0.false c.if-align-ge-GRAIN.true

pub returns-then-offset-eq-HALF : goal.returns-then-offset-eq-HALF
returns-then-offset-eq-HALF c =
    returned_small c.args.offset c.args.align c.if-not-is_alignment.ensures c.if-offset-align-ne0.false c.if-align-ge-GRAIN.false c.if-offset-eq0.false c.if-offset-eq-HALF.true

pub returns : goal.returns
returns c =
    returned_none c.args.offset c.args.align c.if-not-is_alignment.ensures c.if-offset-align-ne0.false c.if-align-ge-GRAIN.false c.if-offset-eq0.false c.if-offset-eq-HALF.false
