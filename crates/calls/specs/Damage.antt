-- T10 of the calls on slices: slices Q that differ from S at most in the words of D, by whatever overwrote them. A call that
-- on S reads no word of D, and moves no byte in which they differ, replies on Q as on S, and leaves slices that again differ
-- at most in D.
use Rattle.std.specs.Prelude.{ℕ, ◌/◌, ◌≡◌}
use Rattle.definition.specs.Units.{halves, multiple}
use Rattle.script.specs.Script.{ok}
use Rattle.script.specs.Locality.{Reads, DiffersIn}
use Rattle.sound.specs.Plans.{Plan}
use Rattle.sound.specs.Calls.{Call, Resize, script_of}
use Rattle.sound.specs.Runs.{Reply}
use Rattle.slices.specs.Slices.{Slices, memory_of}
use Rattle.carry.specs.Differs.{SameBytes}
use Rattle.calls.specs.Bytes.{ByteCall, allocate, deallocate, reallocate, insert, append, Asks}
use Rattle.calls.specs.Performs.{grains_of, most_of, outcome, Performs}

-- what the call does on the damaged slices: the same reply, and no more damage
pub record Contains (D : ℕ → ℕ → Type 0) (T Q : Slices) (k : ByteCall) (r : Reply) : Type 0 where
  pub after : Slices
  pub same : Performs Q k r after
  pub differs : DiffersIn D (memory_of 8 T) (memory_of 8 after)

-- the call reads no word of D
abbrev pub ReadsNone : (ℕ → ℕ → Type 0) → Slices → ByteCall → Type 0
ReadsNone D S k = (K : Call) → Asks k K → (g y : ℕ) → Reads (memory_of 8 S) (script_of (grains_of S) 12 (most_of S) K) g y → D g y → ⊥

-- and the bytes that it moves are the same in both: those of a payload that is resized and has to go to another place
abbrev pub MovesSame : Slices → Slices → ByteCall → Type 0
MovesSame S Q (allocate n a) = Unit {0}
MovesSame S Q (deallocate x a) = Unit {0}
MovesSame S Q (reallocate x n a) = (p : Plan) → outcome S (Resize (x / 16) (halves 16 n) (multiple 16 a)) ≡ ok p → SameBytes S.arena Q.arena (x / 16) p.moved
MovesSame S Q (insert x n) = Unit {0}
MovesSame S Q (append x n) = Unit {0}
