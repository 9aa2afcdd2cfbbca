-- What was found for a payload that gets another size, read as the result of its script: the deed.
use Rattle.std.specs.Prelude.{ℕ, ◌-◌, ◌*◌, Result, Ok, Err}
use Rattle.definition.specs.Calls.{place, keeps}
use Rattle.script.specs.Script.{ok, no}
use Rattle.script.specs.Script.{Result as Answer}
use Rattle.plans.specs.Deeds.{Deed}
use Rattle.plans.specs.Reallocate.{stay_deed, stretch_deed, down_deed, elsewhere_deed}
use Rattle.refusal.specs.Number.{number}
use Rattle.refusal.specs.declared.Refusal.{Refusal}
use Rattle.hand_out.specs.Answers.{taken_of}
use Rattle.resize.specs.declared.Resizing.{Resizing}
use Rattle.resize.specs.declared.Resizing.TheVariants.{Stay, Stretch, Down, Elsewhere}

-- the payload at q gets p half grains at a multiple of u
abbrev pub resizing_deed : ℕ → ℕ → ℕ → Resizing → Deed
resizing_deed q p u Stay = stay_deed q
resizing_deed q p u (Stretch o b) = stretch_deed q o.at o.grains (q - 2 * o.at) b (keeps (q - 2 * o.at) p)
resizing_deed q p u (Down o a b) = down_deed o.at o.grains (q - 2 * o.at) a b (keeps (place u (o.at - a)) p) (place u (o.at - a))
resizing_deed q p u (Elsewhere o a b t) = elsewhere_deed p u o.at o.grains (q - 2 * o.at) a b (taken_of t)

-- or is refused
abbrev pub resized : ℕ → ℕ → ℕ → Result Resizing Refusal → Answer Deed
resized q p u (Ok r) = ok (resizing_deed q p u r)
resized q p u (Err r) = no (number r)
