-- What the callers write between two calls leaves the slices standing for the same heap. A payload is no part of the first half
-- grain of any block, so what is written into payloads alone is among it.
use Rattle.std.specs.Prelude.{ℕ, ◌+◌, ◌*◌, ◌≤◌, ◌<◌, ◌≡◌, List, length}
use Rattle.std.proofs.Common.{arith, ap, ◌∙◌, subst}
use Rattle.std.proofs.Math.Path.{sym, fun_ext}
use Rattle.word.specs.Number.{num_same}
use Rattle.word.specs.Word.{word_at}
use Rattle.definition.specs.Blocks.{Block, free, used, size}
use Rattle.definition.specs.Calls.{Heap}
use Rattle.invariants.specs.Order.{out, Ordered, some, BlockAt, Apart, same, before, behind}
use Rattle.invariants.proofs.Order.{apart, at_whole}
use Rattle.script.specs.Memory.{Memory, Next, Prev, Mark, Table}
use Rattle.machine.specs.Machine.{word_bytes, half, grain, classes}
use Rattle.tags.specs.Tag.{Tag}
use Rattle.tags.proofs.Unique.{tagged_unique}
use Rattle.chains.specs.Links.{Head}
use Rattle.armour.specs.Row.{Row, Sound}
use Rattle.refines.specs.Runs.{Filled}
use Rattle.refines.proofs.Runs.{filled_sound}
use Rattle.lent.specs.Slices.{Slices, memory_of}
use Rattle.lent.proofs.Fields.{memory_next, memory_prev}
use Rattle.lent.specs.Kept.{Lengths}
use Rattle.lent.proofs.Kept.{grains_keep}
use Rattle.promises.specs.Performs.{grains_of, Stand}
use Rattle.promises.specs.Terms.{SameTables, SameAt, InPayload, Fills}
use Rattle.promises.proofs.Storable.{tables_field}

-- the tags tell the blocks
pub row_unique : (n c : ℕ) (m : Memory) (xs ys : List Block) → Row n c m xs → Row n c m ys → xs ≡ ys
row_unique n c m xs ys a b = tagged_unique (m Tag) 0 out out xs ys a.order b.order (a.whole ∙ sym b.whole) a.tags b.tags

-- a block's first half grain is no part of a payload
pub first_outside : (xs : List Block) → Ordered out xs → (x : ℕ) (b : Block) → BlockAt x b 0 xs → (j : ℕ) → grain * x ≤ j → j < grain * x + half
    → (y s d : ℕ) → BlockAt y (used s d) 0 xs → InPayload j y s d → ⊥
first_outside xs o x b h j low high y s d k i = go (apart x y 0 b (used s d) xs h k)
  where
    go : Apart x b y (used s d) → ⊥
    go (same e q) = omega (arith, e, i.0, (at_whole y (used s d) 0 out xs o k).1.some)
    go (before e) = omega (arith, i.0, some b (at_whole x b 0 out xs o h))
    go (behind e) = omega (arith, i.1)

-- ---- words

module _ (S T : Slices) (x : ℕ) (e : (j : ℕ) → grain * x ≤ j → j < grain * x + half → SameAt S T j) where
  same_next : memory_of T Next x ≡ memory_of S Next x
  unfolding word_at
  same_next = memory_next T x ∙ num_same word_bytes T.arena (word_bytes * (4 * x)) S.arena (word_bytes * (4 * x))
      (λ i q. e (word_bytes * (4 * x) + i) (omega arith) (omega arith)) ∙ sym (memory_next S x)

  same_prev : memory_of T Prev x ≡ memory_of S Prev x
  unfolding word_at
  same_prev = memory_prev T x ∙ num_same word_bytes T.arena (word_bytes * (4 * x + 1)) S.arena (word_bytes * (4 * x + 1))
      (λ i q. e (word_bytes * (4 * x + 1) + i) (omega arith) (omega arith)) ∙ sym (memory_prev S x)

module _ (h : Heap) (S T : Slices) (k : Fills h.blocks S T) where
  pub fills_lengths : Lengths S T
  fills_lengths = record { arena = k.size; lists = ap length k.tables.lists; tags = ap length k.tables.tags; regions = ap length k.tables.regions }

  field : (f : ℕ) → ((f ≡ Next → ⊥) × (f ≡ Prev → ⊥)) → memory_of T f ≡ memory_of S f
  field f n = fun_ext (λ y. tables_field S T k.tables f n y)

  filled : Filled h (memory_of S) (memory_of T)
  filled = record {
    tags = field Tag (omega arith, omega arith);
    regions = field Table (omega arith, omega arith);
    heads = field Head (omega arith, omega arith);
    marks = field Mark (omega arith, omega arith);
    frees = λ x s b. (same_next S T x (k.frees x s b), same_prev S T x (k.frees x s b));
    useds = λ x s d b. (same_next S T x (k.useds x s d b), same_prev S T x (k.useds x s d b));
  }

  -- they stand for the same heap
  pub fills_stand : Stand S h → Stand T h
  fills_stand o = subst (λ (n : ℕ). Sound n classes (memory_of T) h) (sym (grains_keep S.arena T.arena k.size))
      (filled_sound (grains_of S) classes (memory_of S) (memory_of T) h filled o)

-- where nothing is written but payloads
pub payloads_fill : (xs : List Block) (S T : Slices) → Ordered out xs → length T.arena ≡ length S.arena → SameTables S T
    → ((j : ℕ) → ((y s d : ℕ) → BlockAt y (used s d) 0 xs → InPayload j y s d → ⊥) → SameAt S T j) → Fills xs S T
payloads_fill xs S T o e t f = record {
  size = e;
  frees = λ x s b j low high. f j (first_outside xs o x (free s) b j low high);
  useds = λ x s d b j low high. f j (first_outside xs o x (used s d) b j low high);
  tables = t;
}
