-- Words counted by number: word number i of w bytes each stands at byte w * i. Two words whose numbers differ have no
-- byte in common, so a caller that counts in words says `i ≡ j → ⊥` and never speaks of bytes.
use Rattle.std.specs.Prelude.{ℕ, ◌+◌, ◌*◌, ◌^◌, ◌≤◌, ◌<◌, ◌≡◌, List, length, get_or}
use Rattle.std.proofs.Common.{mul-add, mul-le-mul_left, mul-one, arith, inl, inr, ⊎_elim}
use Rattle.choice.specs.Choice.{le?}
use Rattle.word.specs.Number.{num, puts, Apart, puts_length, puts_byte, num_puts, puts_own, num_puts_apart}

-- word number i
unfoldable pub word_at : ℕ → List ℕ → ℕ → ℕ
word_at w l i = num w l (w * i)

-- l with v as word number i
unfoldable pub put_at : ℕ → List ℕ → ℕ → ℕ → List ℕ
put_at w l i v = puts w l (w * i) v

-- the length stays
pub put_at_length : (w : ℕ) (l : List ℕ) (i v : ℕ) → length (put_at w l i v) ≡ length l
unfolding put_at
put_at_length w l i v = puts_length w l (w * i) v

-- the word that was put is read again
pub word_at_put : (w : ℕ) (l : List ℕ) (i v : ℕ) → w * i + w ≤ length l → v < 256 ^ w → word_at w (put_at w l i v) i ≡ v
unfolding word_at put_at
word_at_put w l i v h f = num_puts w l (w * i) v h f

-- a word that is put again changes nothing
pub put_at_own : (w : ℕ) (l : List ℕ) (i : ℕ) → ((j : ℕ) → get_or l j 0 < 256) → put_at w l i (word_at w l i) ≡ l
unfolding word_at put_at
put_at_own w l i b = puts_own w l (w * i) b

-- of two words the earlier one ends before the other starts
words_apart : (w i j : ℕ) → i < j → w * i + w ≤ w * j
words_apart w i j h = let m = mul-le-mul_left {m = i + 1} {n = j} w (omega arith) in omega (arith, m, mul-add w i 1, mul-one w)

-- every other word stays
pub word_at_other : (w : ℕ) (l : List ℕ) (i v j : ℕ) → (i ≡ j → ⊥) → word_at w (put_at w l i v) j ≡ word_at w l j
unfolding word_at put_at
word_at_other w l i v j ne = num_puts_apart w w l (w * i) v (w * j) sides
  where
    sides : Apart (w * i) w (w * j) w
    sides = ⊎_elim
        (λ (h : i + 1 ≤ j). inl (words_apart w i j (omega arith)))
        (λ (h : j < i + 1). inr (words_apart w j i (omega (arith, ne))))
        (le? (i + 1) j)

-- every byte outside the word stays
pub put_at_byte : (w : ℕ) (l : List ℕ) (i v j : ℕ) → Apart (w * i) w j 1 → get_or (put_at w l i v) j 0 ≡ get_or l j 0
unfolding put_at
put_at_byte w l i v j h = puts_byte w l (w * i) v j h
