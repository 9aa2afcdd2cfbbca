-- firmheap's answer, as a number.
use Rattle.exports.specs.Answered.{allocate_answers}
use Rattle.exports.proofs.firmheap_allocate.Goals as goal

pub returns : goal.returns
returns c = allocate_answers _ _ _ _ _ _ _ _ c.allocate.result _ c.allocate.ensures c.number.ensures
