-- What a plan leaves in the slices where a payload moves (`carried_out`). It is what storing all writes would leave, but for the
-- bytes of the new payload; and where nothing is moved it is just that.
use Rattle.std.specs.Prelude.{ℕ, ◌*◌}
use Rattle.word.specs.Number.{Apart}
use Rattle.machine.specs.Machine.{half}
use Rattle.plans.specs.Deeds.{Plan}

-- byte j is not in what the plan moves to
abbrev pub NotMoved : Plan → ℕ → Type 0
NotMoved t j = Apart (half * t.answer) (half * t.moved) j 1
