-- All calls at once: the script of each, what the definition answers, and what holds of every call on a sound memory. It
-- does what the definition says; none is refused with 5; and damage that it doesn't read stays where it is.
use Rattle.std.specs.Prelude.{ℕ, ◌<◌}
use Rattle.definition.specs.Calls.{Heap, Answer, take, give_back, resize, insert, append}
use Rattle.invariants.specs.Placing.{Align}
use Rattle.script.specs.Memory.{Memory, Table}
use Rattle.script.specs.Script.{Script}
use Rattle.sound.specs.Plans.{Plan, take_script, give_back_script, resize_script}
use Rattle.sound.specs.RegionPlan.{region_script}

-- p half grains at a multiple of a; a payload at q; len grains from g on
pub data Call : Type 0 where
  Take : (p a : ℕ) → Call
  Return : (q : ℕ) → Call
  Resize : (q p a : ℕ) → Call
  Give Append : (g len : ℕ) → Call

-- what is read, checked and written, with a table of at most `most` regions
abbrev pub script_of : (n c most : ℕ) → Call → Script Plan
script_of n c most (Take p a) = take_script n c p a
script_of n c most (Return q) = give_back_script n c q
script_of n c most (Resize q p a) = resize_script n c q p a
script_of n c most (Give g len) = region_script most 0 n c g len
script_of n c most (Append g len) = region_script most 1 n c g len

-- what the definition answers
abbrev pub answer_of : (c : ℕ) → Call → Heap → Answer
answer_of c (Take p a) h = take c h p a
answer_of c (Return q) h = give_back h q
answer_of c (Resize q p a) h = resize c h q p a
answer_of c (Give g len) h = insert c h g len
answer_of c (Append g len) h = append c h g len

-- what the caller owes: an alignment that is one, and room in the table for a region
abbrev pub Fair : Memory → ℕ → Call → Type 0
Fair m most (Take p a) = Align a
Fair m most (Return q) = Unit {0}
Fair m most (Resize q p a) = Align a
Fair m most (Give g len) = m Table 0 < most
Fair m most (Append g len) = m Table 0 < most
