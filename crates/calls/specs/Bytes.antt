-- The calls as a caller makes them, in bytes; and what each asks for in half grains and grains, or why its numbers are
-- refused before the heap is looked at.
use Rattle.std.specs.Prelude.{ℕ, ◌+◌, ◌-◌, ◌*◌, ◌/◌, ◌%◌}
use Rattle.choice.specs.Choice.{if_eq}
use Rattle.definition.specs.Units.{halves, multiple, first_grain, whole_grains}
use Rattle.sound.specs.Calls.{Call, Take, Return, Resize, Give, Append}
use Rattle.sound.specs.Runs.{Reply, yes, not}
use Rattle.request.specs.Asked.{InRange}
use Rattle.request.specs.Returned.{Suits, OfKind, Stands}

-- n bytes at a multiple of a; the payload at the offset x, which a suits; the same, with n bytes from now on; n bytes from
-- the offset x on
pub data ByteCall : Type 0 where
  allocate : (n a : ℕ) → ByteCall
  deallocate : (x a : ℕ) → ByteCall
  reallocate : (x n a : ℕ) → ByteCall
  insert : (x n : ℕ) → ByteCall
  append : (x n : ℕ) → ByteCall

-- refused by its numbers: 2 where size or alignment is out of range or doesn't suit the offset, 3 where no payload can be there
pub data Wrong : ByteCall → ℕ → Type 0 where
  range : {n a : ℕ} → (InRange n a → ⊥) → Wrong (allocate n a) 2
  unsuited : {x a : ℕ} → (Suits x a → ⊥) → Wrong (deallocate x a) 2
  unkind : {x a : ℕ} → Suits x a → (OfKind x → ⊥) → Wrong (deallocate x a) 3
  resize_range : {x n a : ℕ} → (InRange n a → ⊥) → Wrong (reallocate x n a) 2
  resize_unsuited : {x n a : ℕ} → InRange n a → (Suits x a → ⊥) → Wrong (reallocate x n a) 2
  resize_unkind : {x n a : ℕ} → InRange n a → Suits x a → (OfKind x → ⊥) → Wrong (reallocate x n a) 3

-- the grains of n bytes that follow a region which ended at the offset x: inside a grain none ends, and none follows
abbrev pub following : ℕ → ℕ → ℕ
following x n = if_eq (x % 32) 0 (n / 32) 0

-- what is asked for. A region is the whole grains among its bytes
pub data Asks : ByteCall → Call → Type 0 where
  take : {n a : ℕ} → InRange n a → Asks (allocate n a) (Take (halves 16 n) (multiple 16 a))
  back : {x a q : ℕ} → Stands x a q → Asks (deallocate x a) (Return q)
  resize : {x n a q : ℕ} → InRange n a → Stands x a q → Asks (reallocate x n a) (Resize q (halves 16 n) (multiple 16 a))
  give : {x n : ℕ} → Asks (insert x n) (Give (first_grain 16 x) (whole_grains 16 x n))
  follow : {x n : ℕ} → Asks (append x n) (Append (x / 32) (following x n))

-- the answer's number in bytes: a payload's offset; nothing; the bytes used of a region, from its given start on
abbrev pub bytes : ByteCall → ℕ → ℕ
bytes (allocate n a) v = 16 * v
bytes (deallocate x a) v = v
bytes (reallocate x n a) v = 16 * v
bytes (insert x n) v = 32 * first_grain 16 x - x + 32 * v
bytes (append x n) v = 32 * v

abbrev pub in_bytes : ByteCall → Reply → Reply
in_bytes k (yes v) = yes (bytes k v)
in_bytes k (not i) = not i
