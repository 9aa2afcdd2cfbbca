-- What a call has decided to do (`Deed`), and what is then written (`Plan`). A deed is found by reading and checking alone;
-- so a call that is refused has written nothing.
use Rattle.std.specs.Prelude.{ℕ, List, [], ◌∷◌, ◌++◌}
use Rattle.script.specs.Memory.{Memory, Next, Prev, Write, ◌at◌≔◌, apply}
use Rattle.script.specs.Script.{Script, done, ◌>>=◌, over}
use Rattle.machine.specs.Machine.{guard_next, guard_prev}
use Rattle.chains.specs.Steps.{Step, steps_writes, steps_script}

-- the answer; how many half grains of the old payload are moved to the new one; the steps on the lists before that, and
-- after it; the blocks that get a guard; the writes of tags and of the table of regions
pub record Deed : Type 0 where
  pub answer : ℕ
  pub moved : ℕ
  pub early : List Step
  pub late : List Step
  pub guards : List ℕ
  pub records : List Write

-- the writes before the payload moves, and after it
pub record Plan : Type 0 where
  pub answer : ℕ
  pub moved : ℕ
  pub early : List Write
  pub late : List Write

-- the two words of a guard
abbrev pub guard_writes : List ℕ → List Write
guard_writes [] = []
guard_writes (x ∷ l) = (Next at x ≔ guard_next x) ∷ (Prev at x ≔ guard_prev x) ∷ guard_writes l

-- what a deed writes in the memory m
abbrev pub early_writes : Memory → Deed → List Write
early_writes m t = steps_writes m t.early

abbrev pub late_writes : Memory → Deed → List Write
late_writes m t = steps_writes (apply m (early_writes m t)) t.late ++ (guard_writes t.guards ++ t.records)

abbrev pub plan_of : Memory → Deed → Plan
plan_of m t = record { answer = t.answer; moved = t.moved; early = early_writes m t; late = late_writes m t }

-- the same as a script
unfoldable pub plan_script : Deed → Script Plan
plan_script t = do
  w ← steps_script t.early
  v ← over w (steps_script t.late)
  done (record { answer = t.answer; moved = t.moved; early = w; late = v ++ (guard_writes t.guards ++ t.records) })

-- all writes of a plan, and the memory after them
abbrev pub writes : Plan → List Write
writes t = t.early ++ t.late

abbrev pub after : Memory → Plan → Memory
after m t = apply m (writes t)
