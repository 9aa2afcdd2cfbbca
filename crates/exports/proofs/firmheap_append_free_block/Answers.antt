-- firmheap's answer, as a number.
use Rattle.exports.specs.Answered.{append_answers}
use Rattle.exports.proofs.firmheap_append_free_block.Goals as goal

pub returns : goal.returns
returns c = append_answers _ _ _ _ _ _ _ _ c.append_free_block.result _ c.append_free_block.ensures c.number.ensures
