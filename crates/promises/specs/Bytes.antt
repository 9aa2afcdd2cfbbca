-- The calls as a caller makes them, in bytes; and what each asks for in half grains and grains, or why its numbers are
-- refused before the heap is looked at.
use Rattle.std.specs.Prelude.{ℕ, ◌+◌, ◌-◌, ◌*◌, ◌/◌, ◌%◌, ◌≡◌}
use Rattle.choice.specs.Choice.{if_eq}
use Rattle.definition.specs.Units.{halves, multiple, first_grain, whole_grains}
use Rattle.request.specs.Asked.{InRange}
use Rattle.request.specs.Returned.{Suits, OfKind, Stands}
use Rattle.machine.specs.Machine.{half, grain}
use Rattle.plans.specs.Calls.{Call, Allocate, Deallocate, Reallocate, Insert, Append}
use Rattle.refines.specs.Runs.{Reply, yes, not}

-- n bytes at a multiple of a; the payload at the offset x; the same, with n bytes from now on; n bytes from the offset b on
pub data ByteCall : Type 0 where
  allocate : (n a : ℕ) → ByteCall
  deallocate : (x : ℕ) → ByteCall
  reallocate : (x n a : ℕ) → ByteCall
  insert : (b n : ℕ) → ByteCall
  append : (b n : ℕ) → ByteCall

-- a payload is at a multiple of half a grain
abbrev pub AtHalf : ℕ → Type 0
AtHalf x = x % half ≡ 0

-- refused by its numbers: 2 where size or alignment is out of range or doesn't suit the offset, 3 where no payload can be there
pub data Wrong : ByteCall → ℕ → Type 0 where
  range : {n a : ℕ} → (InRange n a → ⊥) → Wrong (allocate n a) 2
  between : {x : ℕ} → (AtHalf x → ⊥) → Wrong (deallocate x) 3
  resize_range : {x n a : ℕ} → (InRange n a → ⊥) → Wrong (reallocate x n a) 2
  resize_unsuited : {x n a : ℕ} → InRange n a → (Suits x a → ⊥) → Wrong (reallocate x n a) 2
  resize_between : {x n a : ℕ} → InRange n a → Suits x a → (OfKind x → ⊥) → Wrong (reallocate x n a) 3

-- the grains of n bytes that follow a region which ended at the offset b: inside a grain none ends, and none follows
abbrev pub following : ℕ → ℕ → ℕ
following b n = if_eq (b % grain) 0 (n / grain) 0

-- what is asked for. A region is the whole grains among its bytes
pub data Asks : ByteCall → Call → Type 0 where
  take : {n a : ℕ} → InRange n a → Asks (allocate n a) (Allocate (halves half n) (multiple half a))
  back : {x : ℕ} → AtHalf x → Asks (deallocate x) (Deallocate (x / half))
  resize : {x n a q : ℕ} → InRange n a → Stands x a q → Asks (reallocate x n a) (Reallocate q (halves half n) (multiple half a))
  give : {b n : ℕ} → Asks (insert b n) (Insert (first_grain half b) (whole_grains half b n))
  follow : {b n : ℕ} → Asks (append b n) (Append (b / grain) (following b n))

-- the answer's number in bytes: a payload's offset; nothing; the bytes used of a region, from its given start on
abbrev pub bytes : ByteCall → ℕ → ℕ
bytes (allocate n a) v = half * v
bytes (deallocate x) v = v
bytes (reallocate x n a) v = half * v
bytes (insert b n) v = grain * first_grain half b - b + grain * v
bytes (append b n) v = grain * v

abbrev pub in_bytes : ByteCall → Reply → Reply
in_bytes k (yes v) = yes (bytes k v)
in_bytes k (not i) = not i
