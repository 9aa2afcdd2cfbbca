-- firmheap's answer, as a number.
use mathlib.Core.Path.{ap, ◌∙◌}
use Rattle.firmheap.specs.Replies.{taken}
use Rattle.exports.specs.Answers.{number_of}
use Rattle.exports.specs.Answered.{done_taken, deallocate_answers}
use Rattle.exports.proofs.firmheap_deallocate.Goals as goal

pub returns : goal.returns
returns c = deallocate_answers _ _ _ _ _ _ _ _ c.deallocate.result _ c.deallocate.ensures (c.number.ensures ∙ ap number_of (ap taken c.and.ensures ∙ done_taken c.deallocate.result))
