-- `free_list::stands_behind`: each return is one law of the block's place.
use native.Mathlib.Omega.{arith}
use borrow.Author.Tests.{not-true, not-false}
use Rattle.free_list.specs.Place.{placed_nowhere, placed_apart, placed_once}
use Rattle.free_list.proofs.stands_behind.Goals as goal

pub returns-then-count-grain_of : goal.returns-then-count-grain_of
returns-then-count-grain_of c =
    placed_nowhere c.args.a.now c.args.h c.args.y c.args.p c.well_formed.0.0 c.requires c.bytes_of-word.result c.bytes_of-word.ensures c.grain_of.result c.grain_of.ensures (omega arith)

pub returns-then-h-word : goal.returns-then-h-word
returns-then-h-word c =
    placed_apart c.args.a.now c.args.h c.args.y c.args.p c.well_formed.0.0 c.requires c.bytes_of-word.result c.bytes_of-word.ensures c.grain_of.result c.grain_of.ensures (omega arith) (not-true _ c.if-h-word.true)

pub returns : goal.returns
returns c =
    placed_once c.args.a.now c.args.h c.args.y c.args.p c.well_formed.0.0 c.requires c.bytes_of-word.result c.bytes_of-word.ensures c.grain_of.result c.grain_of.ensures (omega arith) (not-false _ c.if-h-word.false)
    c.leads_back.result c.leads_back.ensures
