-- The numbers of a machine, here of the crane's controller. Another machine has another crate of this name; no other
-- file names one of these numbers by itself.
use Rattle.std.specs.Prelude.{ℕ, ◌+◌, ◌-◌, ◌*◌, ◌/◌, ◌%◌, ◌^◌}

-- the bytes of a word
abbrev pub word_bytes : ℕ
word_bytes = 8

-- how many numbers a word can hold
abbrev pub words : ℕ
words = 256 ^ word_bytes

-- the bytes of half a grain, which is two words, and of a grain
abbrev pub half : ℕ
half = 2 * word_bytes

abbrev pub grain : ℕ
grain = 2 * half

-- the first-level classes, and the lists: 16 for each class
abbrev pub classes : ℕ
classes = 12

abbrev pub lists : ℕ
lists = 16 * classes

-- the grains of the longest piece, with its sentinel
abbrev pub piece : ℕ
piece = 2 ^ classes

-- the words of the map, a bit for each list
abbrev pub map_words : ℕ
map_words = (lists + 8 * word_bytes - 1) / (8 * word_bytes)

-- ---- the guard of a used block

-- A word of bytes 0xA5, and one of bytes 0xC3. The bytes of these patterns are not ASCII text, not 0 and not 0xFF. A guard word
-- has the block's offset added, so its low bytes may be others.
abbrev pub first_pattern : ℕ
first_pattern = 165 * ((words - 1) / 255)

abbrev pub second_pattern : ℕ
second_pattern = 195 * ((words - 1) / 255)

-- The two guard words of the block at grain x: each is its pattern plus the block's offset in bytes, cut to a word. It is no
-- multiple of a grain, so it is not 0. With 1 added it is no multiple either, so it is not all ones. In an arena whose bytes a
-- word can count, no two guard words are the same.
unfoldable pub guard_next : ℕ → ℕ
guard_next x = (first_pattern + grain * x) % words

unfoldable pub guard_prev : ℕ → ℕ
guard_prev x = (second_pattern + grain * x) % words
