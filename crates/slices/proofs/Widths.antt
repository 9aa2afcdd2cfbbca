-- The laws of Stored for the two machines: words of eight bytes on the crane's controller, of four on the small one.
-- There an arena is as long as its machine can count.
use Rattle.std.specs.Prelude.{ℕ, ◌^◌, ◌<◌, ◌≡◌, List, length}
use Rattle.definition.specs.Calls.{Heap}
use Rattle.script.specs.Memory.{Write, put, apply}
use Rattle.sound.specs.Sound.{Sound}
use Rattle.slices.proofs.Decode.{wide_8, wide_4}
use Rattle.slices.specs.Slices.{Slices, memory_of, store, stores, Valid, AllValid}
use Rattle.slices.proofs.Stored.{store_is, sound_stored}

-- ---- words of eight bytes

pub store_is_8 : (S : Slices) (x : Write) → length S.arena < 2 ^ 64 → Valid 8 S x → (g y : ℕ) → memory_of 8 (store 8 S x) g y ≡ put (memory_of 8 S) x g y
store_is_8 S x h = store_is 8 S x (wide_8 S.arena h)

pub sound_stored_8 : (n c : ℕ) (S : Slices) (l : List Write) (g : Heap) → length S.arena < 2 ^ 64 → AllValid 8 S l
    → Sound n c (apply (memory_of 8 S) l) g → Sound n c (memory_of 8 (stores 8 S l)) g
sound_stored_8 n c S l g h = sound_stored n c 8 S l g (wide_8 S.arena h)

-- ---- words of four bytes

pub store_is_4 : (S : Slices) (x : Write) → length S.arena < 2 ^ 32 → Valid 4 S x → (g y : ℕ) → memory_of 4 (store 4 S x) g y ≡ put (memory_of 4 S) x g y
store_is_4 S x h = store_is 4 S x (wide_4 S.arena h)

pub sound_stored_4 : (n c : ℕ) (S : Slices) (l : List Write) (g : Heap) → length S.arena < 2 ^ 32 → AllValid 4 S l
    → Sound n c (apply (memory_of 4 S) l) g → Sound n c (memory_of 4 (stores 4 S l)) g
sound_stored_4 n c S l g h = sound_stored n c 4 S l g (wide_4 S.arena h)
