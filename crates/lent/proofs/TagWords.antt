-- What follows from specs/TagWords.antt.
use Rattle.std.specs.Prelude.{ℕ, ◌+◌, ◌*◌, ◌/◌, ◌%◌, ◌≤◌, ◌<◌, ◌≡◌}
use native.Mathlib.Omega.{arith}
use Rattle.std.proofs.Common.{ap, sym, ◌∙◌, ⊎_elim}
use Rattle.choice.specs.Choice.{if_eq, eq_yes, eq_no, same?}
use Rattle.machine.specs.Machine.{piece}
use Rattle.tags.specs.Tag.{flags, START, FREE, SMALL, free_tag, end_tag, small_tag, large_tag, start_tag, pad_tag, first_tag}
use Rattle.tags.specs.Decode.{Busy}
use Rattle.lent.specs.Slices.{tag_words, tag_of, tag_word}
use Rattle.lent.specs.TagWords.{Exactly, free_entry, end_entry, small_entry, large_entry, start_entry, pad_entry, first_entry}

-- f of a choice is the choice of what f makes of both
chosen : (f : ℕ → ℕ) (a b : ℕ) {x y u v : ℕ} → f x ≡ u → f y ≡ v → f (if_eq a b x y) ≡ if_eq a b u v
chosen f a b {x} {y} {u} {v} p q = ⊎_elim
    (λ (e : a ≡ b). ap f (eq_yes a b x y e) ∙ p ∙ sym (eq_yes a b u v e))
    (λ (n : a ≡ b → ⊥). ap f (eq_no a b x y n) ∙ q ∙ sym (eq_no a b u v n))
    (same? a b)

-- ---- there and back

-- a tag whose count fits is an entry
pub tag_word_fits : (v : ℕ) → v / flags < piece → tag_word v < tag_words
unfolding tag_word
tag_word_fits v h = omega arith

-- which is read again
pub tag_stored : (v : ℕ) → v / flags < piece → tag_of (tag_word v) ≡ v
unfolding tag_of tag_word
tag_stored v h =
    let a : (v % flags * piece + v / flags) % piece ≡ v / flags = omega arith in
    let b : (v % flags * piece + v / flags) / piece ≡ v % flags = omega arith in
    rw (a, b) (omega arith)

-- the count of any entry fits
pub count_fits : (r : ℕ) → r < tag_words → tag_of r / flags < piece
unfolding tag_of
count_fits r h = omega arith

module _ (r : ℕ) (h : r < tag_words) where
  -- the flags and the count
  pub tag_flags : tag_of r % flags ≡ r / piece
  unfolding tag_of
  tag_flags = omega arith

  pub tag_count : tag_of r / flags ≡ r % piece
  unfolding tag_of
  tag_count = omega arith

  -- the flags but START
  pub tag_rest : tag_of r % START ≡ r / piece % START
  unfolding tag_of
  tag_rest = omega arith

  -- an entry is stored again as it was
  pub tag_again : tag_word (tag_of r) ≡ r
  unfolding tag_word
  tag_again = rw (tag_flags, tag_count) (omega arith)

  -- so two entries of one tag are the same
  pub tag_is : (v : ℕ) → v / flags < piece → Exactly (tag_of r ≡ v) (r ≡ tag_word v)
  tag_is v k = ((λ e. sym tag_again ∙ ap tag_word e), (λ e. ap tag_of e ∙ tag_stored v k))

-- ---- the entries of a block's tags

-- whatever the count is, they are stored so
module _ (s : ℕ) where
  pub free_word_lem : tag_word (free_tag s) ≡ free_entry s
  unfolding tag_word
  free_word_lem = omega arith

  pub end_word : tag_word (end_tag s) ≡ end_entry s
  unfolding tag_word
  end_word = omega arith

  pub small_word : tag_word (small_tag s) ≡ small_entry s
  unfolding tag_word
  small_word = omega arith

  pub large_word : tag_word (large_tag s) ≡ large_entry s
  unfolding tag_word
  large_word = omega arith

  pub start_word : tag_word (start_tag s) ≡ start_entry s
  unfolding tag_word
  start_word = omega arith

  pub pad_word : tag_word (pad_tag s) ≡ pad_entry s
  unfolding tag_word
  pad_word = omega arith

  pub first_word : (d : ℕ) → tag_word (first_tag s d) ≡ first_entry s d
  first_word d = chosen tag_word d 1 small_word (chosen tag_word d 2 large_word start_word)

pub zero_word : tag_word 0 ≡ 0
unfolding tag_word
zero_word = omega arith

-- ---- tests

from_parts : (r k s : ℕ) → r / piece ≡ k → r % piece ≡ s → r ≡ k * piece + s
from_parts r k s p q = omega arith

module _ (r : ℕ) (h : r < tag_words) where
  -- the entry w of a tag v
  entry_is : (v w : ℕ) → v / flags < piece → tag_word v ≡ w → Exactly (tag_of r ≡ v) (r ≡ w)
  entry_is v w k q = let t = tag_is r h v k in ((λ e. t.0 e ∙ q), (λ e. t.1 (e ∙ sym q)))

  -- an entry without START
  below_rest : r % (START * piece) / piece ≡ r / piece % START
  below_rest = omega arith

  below_count : r % (START * piece) % piece ≡ r % piece
  below_count = omega arith

  -- one tag, and no other
  module _ (s : ℕ) (k : s < piece) where
    pub is_free : Exactly (tag_of r ≡ free_tag s) (r ≡ free_entry s)
    is_free = entry_is (free_tag s) (free_entry s) (omega arith) (free_word_lem s)

    -- FREE, and s grains: START or not
    pub ends_free : Exactly ((tag_of r % START ≡ FREE) × (tag_of r / flags ≡ s)) (r % (START * piece) ≡ end_entry s)
    ends_free = (
      (λ e. from_parts (r % (START * piece)) FREE s (below_rest ∙ sym (tag_rest r h) ∙ e.0) (below_count ∙ sym (tag_count r h) ∙ e.1)),
      (λ e. (omega (arith, tag_rest r h), omega (arith, tag_count r h))),
    )

  -- a free block starts here
  pub starts_free : Exactly ((tag_of r % flags ≡ START + FREE) × (1 ≤ tag_of r / flags)) ((free_entry 1 ≤ r) × (r < (START + FREE + 1) * piece))
  starts_free = (
    (λ e. (omega (arith, e.0, e.1, tag_flags r h, tag_count r h), omega (arith, e.0, e.1, tag_flags r h, tag_count r h))),
    (λ e. (omega (arith, e.0, e.1, tag_flags r h), omega (arith, e.0, e.1, tag_count r h))),
  )

  -- FREE, START or not
  pub has_free : Exactly (tag_of r % START ≡ FREE) ((FREE * piece ≤ r % (START * piece)) × (r % (START * piece) < (FREE + 1) * piece))
  has_free = (
    (λ e. (omega (arith, tag_rest r h), omega (arith, tag_rest r h))),
    (λ e. omega (arith, e.0, e.1, tag_rest r h)),
  )

  -- a block starts here that is not free
  pub is_busy : Exactly (Busy (tag_of r)) ((START * piece ≤ r) × (r < (START + SMALL + 1) * piece))
  is_busy = (
    (λ e. (omega (arith, e.0, e.1, tag_flags r h), omega (arith, e.0, e.1, tag_flags r h))),
    (λ e. (omega (arith, e.0, e.1, tag_flags r h), omega (arith, e.0, e.1, tag_flags r h))),
  )
