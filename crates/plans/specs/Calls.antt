-- All calls, and the script of each. Numbers as in the definition: p half grains at a multiple of a; a payload at q; len grains
-- from g on.
use Rattle.std.specs.Prelude.{ℕ, ◌%◌, ◌≡◌}
use Rattle.invariants.specs.Placing.{Align}
use Rattle.script.specs.Script.{Script}
use Rattle.plans.specs.Deeds.{Plan}
use Rattle.plans.specs.Allocate.{allocate_script}
use Rattle.plans.specs.Deallocate.{deallocate_script}
use Rattle.plans.specs.Reallocate.{reallocate_script}
use Rattle.plans.specs.Regions.{region_script}

pub data Call : Type 0 where
  Allocate : (p a : ℕ) → Call
  Deallocate : (q : ℕ) → Call
  Reallocate : (q p a : ℕ) → Call
  Insert Append : (g len : ℕ) → Call

-- with a table of at most `most` regions
abbrev pub script_of : (n c most : ℕ) → Call → Script Plan
script_of n c most (Allocate p a) = allocate_script n c p a
script_of n c most (Deallocate q) = deallocate_script n c q
script_of n c most (Reallocate q p a) = reallocate_script n c q p a
script_of n c most (Insert g len) = region_script most 0 n c g len
script_of n c most (Append g len) = region_script most 1 n c g len

-- what the public calls see to: an alignment that is one, and that the payload has
abbrev pub Fair : Call → Type 0
Fair (Allocate p a) = Align a
Fair (Deallocate q) = Unit {0}
Fair (Reallocate q p a) = Align a × (q % a ≡ 0)
Fair (Insert g len) = Unit {0}
Fair (Append g len) = Unit {0}
