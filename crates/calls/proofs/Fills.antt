-- What follows from specs/Fills.antt.
use Rattle.std.specs.Prelude.{ℕ, ◌+◌, ◌*◌, ◌<◌, ◌≡◌, List, length}
use Rattle.std.proofs.Common.{arith, ap, sym, subst}
use Rattle.word.specs.Number.{num_same}
use Rattle.word.specs.Word.{word_at}
use Rattle.definition.specs.Blocks.{Block, used}
use Rattle.definition.specs.Calls.{Heap}
use Rattle.invariants.specs.Order.{BlockAt}
use Rattle.sound.specs.Sound.{Sound}
use Rattle.sound.specs.Filled.{NotPayload, Filled}
use Rattle.sound.proofs.Filled.{filled_sound}
use Rattle.slices.proofs.Decode.{grains_keep}
use Rattle.slices.specs.Slices.{Slices, memory_of}
use Rattle.slices.specs.Kept.{Lengths}
use Rattle.carry.specs.Alike.{SameTables}
use Rattle.carry.specs.Words.{word}
use Rattle.carry.proofs.Words.{field_word}
use Rattle.calls.specs.Performs.{grains_of, Stand}
use Rattle.calls.specs.Fills.{Fills}

module _ (h : Heap) (S T : Slices) (k : Fills h S T) where
  pub fills_lengths : Lengths S T
  fills_lengths = record { arena = k.size; lists = ap length k.tables.lists; live = ap length k.tables.live; regions = ap length k.tables.regions }

  same_grains : grains_of T ≡ grains_of S
  same_grains = grains_keep 8 S.arena T.arena k.size

  -- a word that is no payload's is as it was
  same_word : (f x : ℕ) → NotPayload h f x → word f x T.arena ≡ word f x S.arena
  unfolding word_at
  same_word f x n = num_same 8 T.arena (8 * (4 * x + f)) S.arena (8 * (4 * x + f))
      (λ i q. k.bytes (8 * (4 * x + f) + i) (λ y s d b j. n y s d b (omega (arith, j.0), omega (arith, j.1))))

  -- and so is its field
  same_field : (f x : ℕ) → (f < 4 → NotPayload h f x) → memory_of 8 T f x ≡ memory_of 8 S f x
  same_field f x n = field_word S T k.size k.tables f x (λ i. same_word f x (n i))

  filled : Filled h (memory_of 8 S) (memory_of 8 T)
  filled = record { arena = λ f x l n. same_field f x (λ _. n); tables = λ f x l. same_field f x (λ i. absurd (omega arith)) }

  -- so they stand for the same heap
  pub fills_stand : Stand S h → Stand T h
  fills_stand o = subst (λ (n : ℕ). Sound n 12 (memory_of 8 T) h) (sym same_grains) (filled_sound (grains_of S) 12 (memory_of 8 S) (memory_of 8 T) h o filled)

-- which payloads are live hangs on the blocks alone
pub fills_as : (h g : Heap) (S T : Slices) → h.blocks ≡ g.blocks → Fills g S T → Fills h S T
fills_as h g S T e k = record {
  size = k.size;
  bytes = λ j n. k.bytes j (λ y s d b i. n y s d (subst (λ (l : List Block). BlockAt y (used s d) 0 l) (sym e) b) i);
  tables = k.tables;
}
