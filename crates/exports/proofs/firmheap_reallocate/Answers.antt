-- firmheap's answer, as a number.
use Rattle.exports.specs.Answered.{reallocate_answers}
use Rattle.exports.proofs.firmheap_reallocate.Goals as goal

pub returns : goal.returns
returns c = reallocate_answers _ _ _ _ _ _ _ _ _ c.reallocate.result _ c.reallocate.ensures c.number.ensures
