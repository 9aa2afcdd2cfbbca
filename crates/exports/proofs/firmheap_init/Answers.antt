-- firmheap's answer, as a number.
use mathlib.Core.Path.{ap, ◌∙◌}
use Rattle.firmheap.specs.Replies.{taken}
use Rattle.exports.specs.Answers.{number_of}
use Rattle.exports.specs.Answered.{done_taken, init_answers}
use Rattle.exports.proofs.firmheap_init.Goals as goal

pub returns : goal.returns
returns c = init_answers _ _ _ _ _ _ _ c.init.result _ c.init.ensures (c.number.ensures ∙ ap number_of (ap taken c.and.ensures ∙ done_taken c.init.result))
