-- firmheap's answer, as a number.
use Rattle.exports.specs.Answered.{insert_answers}
use Rattle.exports.proofs.firmheap_insert_free_block.Goals as goal

pub returns : goal.returns
returns c = insert_answers _ _ _ _ _ _ _ _ c.insert_free_block.result _ c.insert_free_block.ensures c.number.ensures
