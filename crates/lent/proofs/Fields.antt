-- What follows from specs/Fields.antt.
use Rattle.std.specs.Prelude.{ℕ, zero, suc, ◌+◌, ◌*◌, ◌≤◌, ◌<◌, ◌≡◌, List, length}
use native.Mathlib.Omega.{arith}
use Rattle.std.proofs.Math.Path.{refl, ap}
use Rattle.std.proofs.Common.{sym, ◌∙◌, ⊎_elim}
use Rattle.choice.specs.Choice.{eq_no, eq_case, upd, upd_same, upd_other, same?}
use Rattle.word.specs.Number.{num, puts}
use Rattle.word.specs.Word.{word_at, put_at, word_at_put, word_at_other}
use Rattle.table.specs.Table.{entry, enter, entry_enter, entry_other}
use Rattle.bits.specs.Map.{map_bit, mark_bit, unmark_bit}
use Rattle.bits.proofs.Map.{map_bit_enter, mark_is_lem, unmark_is, mark_entry, unmark_entry}
use Rattle.script.specs.Memory.{Next, Prev, Mark, Table}
use Rattle.machine.specs.Machine.{word_bytes, words, grain, map_words}
use Rattle.tags.specs.Tag.{Tag}
use Rattle.chains.specs.Links.{Head}
use Rattle.lent.specs.Slices.{Slices, grains, tag_of, tag_word, next_at, prev_at, put_next, put_prev, head_at, put_head, put_mark, put_tag, memory_of, with_lists, store_at, Fits}
use Rattle.lent.proofs.TagWords.{tag_stored}
use Rattle.lent.specs.Fields.{Becomes}

-- ---- the fields

module _ (S : Slices) (y : ℕ) where
  pub memory_tag : memory_of S Tag y ≡ tag_of (entry S.tags y)
  unfolding memory_of
  memory_tag = refl

  pub memory_head : memory_of S Head y ≡ head_at S.lists y
  unfolding memory_of
  memory_head = refl

  pub memory_next : memory_of S Next y ≡ next_at S.arena y
  unfolding memory_of
  memory_next = refl

  pub memory_prev : memory_of S Prev y ≡ prev_at S.arena y
  unfolding memory_of
  memory_prev = refl

  pub memory_mark : memory_of S Mark y ≡ map_bit S.lists y
  unfolding memory_of
  memory_mark = refl

  pub memory_table : memory_of S Table y ≡ entry S.regions y
  unfolding memory_of
  memory_table = refl

-- a mark set
pub mark_set : (t : List ℕ) (k : ℕ) → put_mark t k 1 ≡ mark_bit t k
mark_set t k = eq_no 1 0 _ _ (λ e. omega arith)

-- what holds of each field, and of the numbers that are none
pub by_field : (P : ℕ → Type 0) → P Tag → P Head → P Next → P Prev → P Mark → P (suc Mark) → P Table
    → ((f : ℕ) → P (suc (suc (suc (suc (suc (suc (suc f)))))))) → (f : ℕ) → P f
by_field P a b c d e l t o zero = a
by_field P a b c d e l t o (suc zero) = b
by_field P a b c d e l t o (suc (suc zero)) = c
by_field P a b c d e l t o (suc (suc (suc zero))) = d
by_field P a b c d e l t o (suc (suc (suc (suc zero)))) = e
by_field P a b c d e l t o (suc (suc (suc (suc (suc zero))))) = l
by_field P a b c d e l t o (suc (suc (suc (suc (suc (suc zero)))))) = t
by_field P a b c d e l t o (suc (suc (suc (suc (suc (suc (suc f))))))) = o f

-- ---- a word of a grain

-- what became v at x, and is the same elsewhere
changed_at : (f e : ℕ → ℕ) (x v : ℕ) → e x ≡ v → ((y : ℕ) → (x ≡ y → ⊥) → e y ≡ f y) → (y : ℕ) → e y ≡ upd f x v y
changed_at f e x v p q y = ⊎_elim
    (λ (c : y ≡ x). ap e c ∙ p ∙ sym (upd_same f x v y c))
    (λ (n : y ≡ x → ⊥). q y (λ c. n (sym c)) ∙ sym (upd_other f x v y n))
    (same? y x)

-- the words of grain x, by their bytes
module _ (a : List ℕ) (x : ℕ) where
  pub next_bytes : num word_bytes a (grain * x) ≡ next_at a x
  unfolding word_at
  next_bytes = ap (num word_bytes a) (omega arith)

  pub prev_bytes : num word_bytes a (grain * x + word_bytes) ≡ prev_at a x
  unfolding word_at
  prev_bytes = ap (num word_bytes a) (omega arith)

  pub put_next_bytes : (v : ℕ) → puts word_bytes a (grain * x) v ≡ put_next a x v
  unfolding put_at
  put_next_bytes v = ap (λ (i : ℕ). puts word_bytes a i v) (omega arith)

  pub put_prev_bytes : (v : ℕ) → puts word_bytes a (grain * x + word_bytes) v ≡ put_prev a x v
  unfolding put_at
  put_prev_bytes v = ap (λ (i : ℕ). puts word_bytes a i v) (omega arith)

  -- all its bytes are in the arena
  pub grain_inside : x < grains a → grain * x + grain ≤ length a
  unfolding grains
  grain_inside h = omega arith

-- each word of a grain is in the arena
pub word_inside : (a : List ℕ) (y f : ℕ) → y < grains a → f < 4 → word_bytes * (4 * y + f) + word_bytes ≤ length a
unfolding grains
word_inside a y f h k = omega arith

module _ (a : List ℕ) (p v : ℕ) where
  module _ (h : p < grains a) (k : v < words) where
    pub next_is_lem : (y : ℕ) → next_at (put_next a p v) y ≡ upd (next_at a) p v y
    next_is_lem = changed_at (next_at a) (next_at (put_next a p v)) p v
        (word_at_put word_bytes a (4 * p) v (omega (arith, word_inside a p 0 h (omega arith))) k)
        λ y n. word_at_other word_bytes a (4 * p) v (4 * y) (λ e. n (omega arith))

    pub prev_is_lem : (y : ℕ) → prev_at (put_prev a p v) y ≡ upd (prev_at a) p v y
    prev_is_lem = changed_at (prev_at a) (prev_at (put_prev a p v)) p v
        (word_at_put word_bytes a (4 * p + 1) v (word_inside a p 1 h (omega arith)) k)
        λ y n. word_at_other word_bytes a (4 * p + 1) v (4 * y + 1) (λ e. n (omega arith))

  pub next_prev : (y : ℕ) → prev_at (put_next a p v) y ≡ prev_at a y
  next_prev y = word_at_other word_bytes a (4 * p) v (4 * y + 1) (λ e. omega arith)

  pub prev_next : (y : ℕ) → next_at (put_prev a p v) y ≡ next_at a y
  prev_next y = word_at_other word_bytes a (4 * p + 1) v (4 * y) (λ e. omega arith)

-- ---- a field

module _ (S : Slices) (p v : ℕ) where
  -- field g of T is that of S, if f is another field
  abbrev Same : Slices → ℕ → ℕ → Type 0
  Same T f g = (f ≡ g → ⊥) → (y : ℕ) → memory_of T g y ≡ memory_of S g y

  tag_becomes : Fits S Tag p v → Becomes S Tag p v (store_at S Tag p v)
  unfolding memory_of
  tag_becomes h = record {
    here = changed_at (λ y. tag_of (entry S.tags y)) (λ y. tag_of (entry (put_tag S.tags p v) y)) p v
        (ap tag_of (entry_enter S.tags p (tag_word v) h.0) ∙ tag_stored v h.1)
        (λ y n. ap tag_of (entry_other S.tags p (tag_word v) y n));
    elsewhere = by_field (Same (store_at S Tag p v) Tag)
        (λ n. absurd (n refl)) (λ n y. refl) (λ n y. refl) (λ n y. refl) (λ n y. refl) (λ n y. refl) (λ n y. refl) (λ g n y. refl);
  }

  head_becomes : Fits S Head p v → Becomes S Head p v (store_at S Head p v)
  unfolding memory_of
  head_becomes h = record {
    here = changed_at (head_at S.lists) (head_at (put_head S.lists p v)) p v
        (entry_enter S.lists (map_words + p) v h.0)
        (λ y n. entry_other S.lists (map_words + p) v (map_words + y) (λ e. n (omega arith)));
    elsewhere = by_field (Same (store_at S Head p v) Head)
        (λ n y. refl) (λ n. absurd (n refl)) (λ n y. refl) (λ n y. refl)
        (λ n y. map_bit_enter S.lists (map_words + p) v y (omega arith))
        (λ n y. refl) (λ n y. refl) (λ g n y. refl);
  }

  next_becomes : Fits S Next p v → Becomes S Next p v (store_at S Next p v)
  unfolding memory_of
  next_becomes h = record {
    here = next_is_lem S.arena p v h.0 h.1;
    elsewhere = by_field (Same (store_at S Next p v) Next)
        (λ n y. refl) (λ n y. refl) (λ n. absurd (n refl)) (λ n. next_prev S.arena p v)
        (λ n y. refl) (λ n y. refl) (λ n y. refl) (λ g n y. refl);
  }

  prev_becomes : Fits S Prev p v → Becomes S Prev p v (store_at S Prev p v)
  unfolding memory_of
  prev_becomes h = record {
    here = prev_is_lem S.arena p v h.0 h.1;
    elsewhere = by_field (Same (store_at S Prev p v) Prev)
        (λ n y. refl) (λ n y. refl) (λ n. prev_next S.arena p v) (λ n. absurd (n refl))
        (λ n y. refl) (λ n y. refl) (λ n y. refl) (λ g n y. refl);
  }

  -- a map that changed at p, and nothing after it
  map_becomes : (t : List ℕ) → ((y : ℕ) → map_bit t y ≡ upd (map_bit S.lists) p v y)
      → ((j : ℕ) → map_words ≤ j → entry t j ≡ entry S.lists j) → Becomes S Mark p v (with_lists S t)
  unfolding memory_of
  map_becomes t m e = record {
    here = m;
    elsewhere = by_field (Same (with_lists S t) Mark)
        (λ n y. refl) (λ n y. e (map_words + y) (omega arith)) (λ n y. refl) (λ n y. refl) (λ n. absurd (n refl))
        (λ n y. refl) (λ n y. refl) (λ g n y. refl);
  }

  mark_becomes : Fits S Mark p v → Becomes S Mark p v (store_at S Mark p v)
  mark_becomes h = eq_case (λ (t : List ℕ). Becomes S Mark p v (with_lists S t)) v 0 _ _
      (λ e. map_becomes (unmark_bit S.lists p) (λ y. unmark_is S.lists p h.1 h.0 y ∙ marked y (sym e)) (unmark_entry S.lists p h.0))
      (λ n. map_becomes (mark_bit S.lists p) (λ y. mark_is_lem S.lists p h.1 h.0 y ∙ marked y (omega (arith, n, h.2))) (mark_entry S.lists p h.0))
    where
      marked : (y : ℕ) {b : ℕ} → b ≡ v → upd (map_bit S.lists) p b y ≡ upd (map_bit S.lists) p v y
      marked y e = ap (λ (q : ℕ). upd (map_bit S.lists) p q y) e

  table_becomes : Fits S Table p v → Becomes S Table p v (store_at S Table p v)
  unfolding memory_of
  table_becomes h = record {
    here = changed_at (entry S.regions) (entry (enter S.regions p v)) p v (entry_enter S.regions p v h.0) (entry_other S.regions p v);
    elsewhere = by_field (Same (store_at S Table p v) Table)
        (λ n y. refl) (λ n y. refl) (λ n y. refl) (λ n y. refl) (λ n y. refl) (λ n y. refl) (λ n. absurd (n refl)) (λ g n y. refl);
  }

  -- whatever the field
  pub field_becomes : (f : ℕ) → Fits S f p v → Becomes S f p v (store_at S f p v)
  field_becomes = by_field (λ f. Fits S f p v → Becomes S f p v (store_at S f p v))
      tag_becomes head_becomes next_becomes prev_becomes mark_becomes (λ h. absurd h) table_becomes (λ f h. absurd h)
