-- Bytes moved as words: to put the number that was read is to copy its bytes. And what a move does to the words of the
-- list: one inside the target is the source's, one outside stays.
use Rattle.std.specs.Prelude.{ℕ, zero, suc, ◌+◌, ◌*◌, ◌/◌, ◌%◌, ◌≤◌, ◌<◌, ◌≡◌, refl, List, length, get_or, set}
use Rattle.std.proofs.Common.{add_assoc, mul-add, arith, inl, inr, ⊎_elim, length-set, get_or-set_same, get_or-set_other}
use Rattle.word.specs.Number.{num, puts, Apart, num_same}
use Rattle.word.specs.Word.{word_at}
use Rattle.copy.specs.Copied.{Copied, copied_then}
use Rattle.copy.specs.Moved.{Moved, moved, moved_arrived, moved_kept}

-- every element is a byte
abbrev pub Bytes : List ℕ → Type 0
Bytes a = (i : ℕ) → get_or a i 0 < 256

-- one byte stored is one byte copied
pub set_copied : (a : List ℕ) (from : ℕ) (b : List ℕ) (to : ℕ) → Copied a from b to 1 (set b to (get_or a from 0))
set_copied a from b to =
    let x = get_or a from 0 in
    record {
      arrived = λ i h f.
          let e : to + i ≡ to = omega arith in
          let q : from + i ≡ from = omega arith in
          rw (e, q) (get_or-set_same b to x 0 (omega arith));
      kept = λ j h. get_or-set_other b to j x 0 (λ q. ⊎_elim (λ w. omega arith) (λ w. omega arith) h);
      size = length-set b to x;
    }

-- a number of n bytes that was read from a, put into b, is n bytes copied
pub puts_copied : (n : ℕ) (a : List ℕ) (from : ℕ) (b : List ℕ) (to : ℕ) → Bytes a → Copied a from b to n (puts n b to (num n a from))
unfolding num puts
puts_copied zero a from b to B = record { arrived = λ i h f. absurd (omega arith); kept = λ j h. refl; size = refl }
puts_copied (suc n) a from b to B =
    let x = get_or a from 0 in
    let y = num n a (from + 1) in
    let low : (x + 256 * y) % 256 ≡ x = omega (arith, B from) in
    let high : (x + 256 * y) / 256 ≡ y = omega (arith, B from) in
    let more : suc n ≡ 1 + n = omega arith in
    rw (low, high, more) (copied_then {i = 1} (set_copied a from b to) (puts_copied n a (from + 1) (set b to x) (to + 1) B))

-- two words of a, put one behind the other into b, are half a grain copied
pub half_copied : (a : List ℕ) (from : ℕ) (b : List ℕ) (to : ℕ) → Bytes a
    → Copied a from b to 16 (puts 8 (puts 8 b to (num 8 a from)) (to + 8) (num 8 a (from + 8)))
half_copied a from b to B = copied_then {i = 8} (puts_copied 8 a from b to B) (puts_copied 8 a (from + 8) _ (to + 8) B)

-- four of them, each read from the list as it was, are a grain moved
pub grain_moved : (a : List ℕ) (from to : ℕ) → Bytes a
    → Moved a from to 32
    (puts 8 (puts 8 (puts 8 (puts 8 a to (num 8 a from)) (to + 8) (num 8 a (from + 8))) (to + 16) (num 8 a (from + 16))) (to + 24) (num 8 a (from + 24)))
grain_moved a from to B =
    rw (← add_assoc to 16 8, ← add_assoc from 16 8)
    (copied_then {i = 16} (half_copied a from a to B) (half_copied a (from + 16) _ (to + 16) B))

-- ---- the words of the list

module _ (a : List ℕ) (from to n : ℕ) where
  -- a number inside the target is the source's
  pub moved_num : (m i : ℕ) → i + m ≤ n → to + n ≤ length a → num m (moved a from to n) (to + i) ≡ num m a (from + i)
  moved_num m i h f = num_same m (moved a from to n) (to + i) a (from + i)
      (λ k q. rw (add_assoc to i k, add_assoc from i k) (moved_arrived a from to n (i + k) (omega arith) (omega arith)))

  -- a number outside it stays
  pub num_kept : (m j : ℕ) → Apart to n j m → num m (moved a from to n) j ≡ num m a j
  num_kept m j h = num_same m (moved a from to n) j a j
      (λ k q. moved_kept a from to n (j + k) (⊎_elim (λ w. inl (omega arith)) (λ w. inr (omega arith)) h))

  -- a word outside it stays
  pub word_kept : (w j : ℕ) → Apart to n (w * j) w → word_at w (moved a from to n) j ≡ word_at w a j
  unfolding word_at
  word_kept w j h = num_kept w (w * j) h

-- source and target start with a word: a word inside the target is the source's
pub word_arrived : (w : ℕ) (a : List ℕ) (f t n i : ℕ) → w * i + w ≤ n → w * t + n ≤ length a → word_at w (moved a (w * f) (w * t) n) (t + i) ≡ word_at w a (f + i)
unfolding word_at
word_arrived w a f t n i h g = rw (mul-add w t i, mul-add w f i) (moved_num a (w * f) (w * t) n w (w * i) h g)
