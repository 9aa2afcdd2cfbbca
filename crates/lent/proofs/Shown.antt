-- What slices show, whatever stands in them: every number is one that its field can hold.
use Rattle.std.specs.Prelude.{ℕ, zero, suc, ◌+◌, ◌*◌, ◌/◌, ◌^◌, ◌<◌, List, length}
use Rattle.std.proofs.Common.{arith}
use Rattle.word.specs.Number.{num}
use Rattle.word.specs.Word.{word_at}
use Rattle.table.specs.Table.{entry}
use Rattle.bits.proofs.Map.{map_bit_lt}
use Rattle.machine.specs.Machine.{word_bytes, words, grain, classes, map_words}
use Rattle.plans.specs.Storable.{Shows}
use Rattle.lent.specs.Slices.{Slices, grains, tag_words, memory_of}
use Rattle.lent.proofs.TagWords.{count_fits}
use Rattle.lent.specs.Held.{byte_values, Under, Held}
use Rattle.lent.proofs.Held.{entry_under}

-- n bytes
num_below : (n : ℕ) (l : List ℕ) (i : ℕ) → Under byte_values l → num n l i < 256 ^ n
unfolding num
num_below zero l i h = omega arith
num_below (suc n) l i h = omega (arith, h i, num_below n l (i + 1) h)

-- a word of the arena
pub word_below : (a : List ℕ) (i : ℕ) → Under byte_values a → word_at word_bytes a i < words
unfolding word_at
word_below a i h = num_below word_bytes a (word_bytes * i) h

-- an arena whose bytes a word can count has no more grains than guards can tell apart
pub grains_below : (a : List ℕ) → length a < words → grains a < words / grain
unfolding grains
grains_below a h = omega arith

pub shows : (S : Slices) → Held S → length S.arena < words → Shows (grains S.arena) classes words (memory_of S)
unfolding memory_of
shows S h k = record {
  counts = λ x. count_fits (entry S.tags x) (entry_under tag_words S.tags x h.tags);
  nexts = λ x. word_below S.arena (4 * x) h.arena;
  prevs = λ x. word_below S.arena (4 * x + 1) h.arena;
  heads = λ k. entry_under words S.lists (map_words + k) h.lists;
  marks = λ k. omega (arith, map_bit_lt S.lists k);
  grains = omega (arith, grains_below S.arena k);
  guards = omega arith;
  some = omega arith;
}
