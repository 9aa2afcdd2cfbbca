-- `undo::undo_take`: the parts put back, one after the other; none of them changes a length.
use mathlib.Core.Path.{◌∙◌}
use Rattle.slices.proofs.Decode.{grains_keep}
use Rattle.undo.specs.Undone.{undone}
use Rattle.undo.proofs.undo_take.Goals as goal

pub block_back-requires : goal.block_back-requires
block_back-requires c =
    rw (grains_keep 8 c.args.a.now _ c.links_back.auto.a) c.requires.block

pub header_back-requires : goal.header_back-requires
header_back-requires c =
    rw (grains_keep 8 c.args.a.now _ (c.block_back.auto.a ∙ c.links_back.auto.a)) c.requires.rest

pub returns : goal.returns
returns c =
    undone c.args.a.now c.args.lists.now c.args.live.now c.args.s _ _ _ c.well_formed.0.0 c.requires
    (c.header_back.ensures ∙ rw (c.block_back.ensures, c.links_back.ensures)) c.heads_back.ensures c.store.ensures
