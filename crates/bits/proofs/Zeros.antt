-- Counting the zeros below a number's lowest set bit, and what a search that shifts and counts finds.
use Rattle.std.specs.Prelude.{ℕ, zero, suc, ◌+◌, ◌-◌, ◌/◌, ◌%◌, ◌^◌, ◌≤◌, ◌<◌, ◌≡◌, ◌⊎◌}
use Rattle.std.proofs.Common.{suc-le-suc, eq-zero-or-pos, div-le_self, arith, ap, sym, ◌∙◌, inl, inr, ⊎_elim}
use Rattle.std.specs.Int.Count.{count_trailing_zeros}
use Rattle.std.specs.Int.{w64}
use Rattle.std.proofs.lemmas.Nat.Bits.{bit_at-trailing_zeros}
use Rattle.bits.specs.Bit.{bit}
use Rattle.bits.proofs.Bit.{bit_zero, bit_suc, bit_shr, bit_none, bit_high}
use Rattle.choice.specs.Choice.{le?}
use Rattle.bits.specs.First.{first_set}
use Rattle.bits.proofs.First.{first_is}

parity : (n : ℕ) → (n % 2 ≡ 0) ⊎ (n % 2 ≡ 1)
parity n = ⊎_elim (λ e. inl e) (λ h. inr (omega arith)) (eq-zero-or-pos (n % 2))

-- the bit at that place is set
pub zeros_set : (k n : ℕ) → 0 < n → n < 2 ^ k → bit n (count_trailing_zeros k n) ≡ 1
unfolding count_trailing_zeros
zeros_set zero n p h = omega arith
zeros_set (suc k) n p h = ⊎_elim
    (λ e. rw e (bit_suc n _ ∙ zeros_set k (n / 2) (omega arith) (omega arith)))
    (λ e. rw e (bit_zero n ∙ e))
    (parity n)

-- no bit below it is
pub zeros_below : (k n j : ℕ) → j < count_trailing_zeros k n → bit n j ≡ 0
unfolding count_trailing_zeros
zeros_below zero n j h = omega arith
zeros_below (suc k) n zero h = ⊎_elim (λ e. bit_zero n ∙ e) (λ e. let h' = rw e at h in omega (arith, h')) (parity n)
zeros_below (suc k) n (suc j) h = ⊎_elim
    (λ e. let h' = rw e at h in bit_suc n j ∙ zeros_below k (n / 2) j (omega (arith, h')))
    (λ e. let h' = rw e at h in omega (arith, h'))
    (parity n)

-- and it is one of the places
pub zeros_lt : (k n : ℕ) → 0 < n → n < 2 ^ k → count_trailing_zeros k n < k
unfolding count_trailing_zeros
zeros_lt zero n p h = omega arith
zeros_lt (suc k) n p h = ⊎_elim
    (λ e. rw e (suc-le-suc (zeros_lt k (n / 2) (omega arith) (omega arith))))
    (λ e. rw e (omega arith))
    (parity n)

-- the zeros below the lowest bit set are its place, one of the 64: it is set, and no bit below it is
pub zeros_place :
    (n : ℕ) → 0 < n → n < 2 ^ 64
    → let z = count_trailing_zeros 64 n in (z < 64) × (bit n z ≡ 1) × ((j : ℕ) → j < z → bit n j ≡ 0)
unfolding bit
zeros_place n p h = bit_at-trailing_zeros w64 n p h

-- bit j of m, as bit j - i of m shifted by i
shifted : (m i j : ℕ) → i ≤ j → bit m j ≡ bit (m / 2 ^ i) (j - i)
shifted m i j h = let e : i + (j - i) ≡ j = omega arith in ap (bit m) (sym e) ∙ sym (bit_shr m i (j - i))

-- nothing is left after the shift: no bit from i on is set
pub none_left : (m i : ℕ) → i ≤ 64 → m / 2 ^ i ≡ 0 → first_set (bit m) (64 - i) i ≡ 64
none_left m i h z =
    first_is (bit m) (64 - i) i 64 h (omega arith)
    (λ j l l' e. let b : bit m j ≡ 0 = shifted m i j l ∙ rw z (bit_none (j - i)) in omega arith)
    (λ l. omega arith)

-- something is left: the zeros below it lead to the first bit set
pub some_left :
    (m i : ℕ) → i < 64 → m < 2 ^ 64 → (m / 2 ^ i ≡ 0 → ⊥)
    → (i + count_trailing_zeros 64 (m / 2 ^ i) < 64) × (first_set (bit m) (64 - i) i ≡ i + count_trailing_zeros 64 (m / 2 ^ i))
some_left m i h f ne =
    let n = m / 2 ^ i in
    let d : n < 2 ^ 64 = omega (arith, div-le_self m (2 ^ i)) in
    let t = count_trailing_zeros 64 n in
    let place = zeros_place n (omega (arith, ne)) d in
    let one : bit m (i + t) ≡ 1 = sym (bit_shr m i t) ∙ place.1 in
    let in_word : i + t < 64 = ⊎_elim
    (λ (p : 64 ≤ i + t). let z = bit_high m 64 (i + t) f p in absurd (omega arith))
    (λ (p : i + t < 64). p)
    (le? 64 (i + t)) in (
      in_word,
      first_is (bit m) (64 - i) i (i + t) (omega arith) (omega arith)
          (λ j l l' e. let b : bit m j ≡ 0 = shifted m i j l ∙ place.2 (j - i) (omega arith) in omega arith)
          (λ l. one),
    )
