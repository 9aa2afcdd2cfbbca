-- What follows from specs/Bit.antt.
use Rattle.std.specs.Prelude.{ℕ, zero, suc, ◌+◌, ◌*◌, ◌/◌, ◌%◌, ◌^◌, ◌≤◌, ◌<◌, max, ◌≡◌, refl}
use Rattle.std.proofs.Common.{one-mul, arith, ap, sym, ◌∙◌, shr-shr, shl_exact}
use Rattle.std.proofs.Math.Pow.{pow-lt}
use Rattle.std.specs.Int.Bits.{bit_or, bit_xor, xor_step, differ}
use Rattle.std.proofs.lemmas.Nat.{or_lt, xor_lt, xor_shr}
use Rattle.std.proofs.lemmas.Nat.Bits.{bit_at_lowest, bit_at-suc, bit_at-zero, bit_at_above, bit_at-pow_same, bit_at-pow_other, bit_at_or, bit_at_xor}
use Rattle.bits.specs.Bit.{bit, set_bit, clear_bit}

-- ---- one bit

-- a bit is 0 or 1
pub bit_lt : (m j : ℕ) → bit m j < 2
unfolding bit
bit_lt m j = omega arith

-- bit 0 says whether m is odd
pub bit_zero : (m : ℕ) → bit m 0 ≡ m % 2
unfolding bit
bit_zero m = bit_at_lowest m

-- the others are those of half of m
pub bit_suc : (m j : ℕ) → bit m (suc j) ≡ bit (m / 2) j
unfolding bit
bit_suc m j = bit_at-suc m j

-- a shift to the right moves them down
pub bit_shr : (m i j : ℕ) → bit (m / 2 ^ i) j ≡ bit m (i + j)
unfolding bit
bit_shr m i j = ap (λ (x : ℕ). x % 2) (shr-shr m i j)

-- 0 has no bit set
pub bit_none : (j : ℕ) → bit 0 j ≡ 0
unfolding bit
bit_none j = bit_at-zero j

-- a number below 2 ^ k has no bit set from k on
pub bit_high : (m k j : ℕ) → m < 2 ^ k → k ≤ j → bit m j ≡ 0
unfolding bit
bit_high m k j h l = bit_at_above m k j h l

-- ---- a power of two has one bit set

pub pow_bit : (i : ℕ) → bit (2 ^ i) i ≡ 1
unfolding bit
pow_bit i = bit_at-pow_same i

pub pow_bit_other : (i j : ℕ) → (i ≡ j → ⊥) → bit (2 ^ i) j ≡ 0
unfolding bit
pow_bit_other i j ne = bit_at-pow_other i j (λ e. ne (sym e))

-- ---- or, and exclusive or, bit by bit

or_bit : (a b j : ℕ) → bit (bit_or a b) j ≡ max (bit a j) (bit b j)
unfolding bit
or_bit a b j = bit_at_or a b j

differ_lt : (x y : ℕ) → x < 2 → y < 2 → differ x y < 2
differ_lt zero y p q = q
differ_lt (suc x) zero p q = p
differ_lt (suc zero) (suc y) p q = omega arith
differ_lt (suc (suc x)) (suc y) p q = omega arith

differ_zero : (x : ℕ) → differ x 0 ≡ x
differ_zero zero = refl
differ_zero (suc x) = refl

xor_bit : (a b j : ℕ) → bit (bit_xor a b) j ≡ differ (bit a j) (bit b j)
unfolding bit
xor_bit a b j =
    rw (xor_shr a b j)
    (omega (
      arith,
      xor_step (a / 2 ^ j) (b / 2 ^ j),
      differ_lt (a / 2 ^ j % 2) (b / 2 ^ j % 2) (omega arith) (omega arith),
    ))

-- the same, as the rest of the sum by 2
xor_rest : (a b j : ℕ) → bit (bit_xor a b) j ≡ (bit a j + bit b j) % 2
unfolding bit
xor_rest a b j = bit_at_xor a b j

-- ---- a bit set, a bit cleared

-- bit i is set
pub set_bit_same : (m i : ℕ) → bit (set_bit m i) i ≡ 1
unfolding set_bit
set_bit_same m i = or_bit m (2 ^ i) i ∙ omega (arith, pow_bit i, bit_lt m i)

-- the others are as they were
pub set_bit_other : (m i j : ℕ) → (i ≡ j → ⊥) → bit (set_bit m i) j ≡ bit m j
unfolding set_bit
set_bit_other m i j ne = or_bit m (2 ^ i) j ∙ omega (arith, pow_bit_other i j ne)

-- bit i is cleared
pub clear_bit_same : (m i : ℕ) → bit (clear_bit m i) i ≡ 0
unfolding clear_bit set_bit
clear_bit_same m i = xor_rest (bit_or m (2 ^ i)) (2 ^ i) i ∙ rw (set_bit_same m i, pow_bit i)

-- the others are as they were
pub clear_bit_other : (m i j : ℕ) → (i ≡ j → ⊥) → bit (clear_bit m i) j ≡ bit m j
unfolding clear_bit set_bit
clear_bit_other m i j ne =
    xor_bit (bit_or m (2 ^ i)) (2 ^ i) j ∙ rw (set_bit_other m i j ne, pow_bit_other i j ne) (differ_zero (bit m j))

-- a number of k bits keeps to k bits
pub set_bit_lt : (k m i : ℕ) → m < 2 ^ k → i < k → set_bit m i < 2 ^ k
unfolding set_bit
set_bit_lt k m i h l = or_lt k m (2 ^ i) h (pow-lt l)

pub clear_bit_lt : (k m i : ℕ) → m < 2 ^ k → i < k → clear_bit m i < 2 ^ k
unfolding clear_bit
clear_bit_lt k m i h l = xor_lt k (bit_or m (2 ^ i)) (2 ^ i) (or_lt k m (2 ^ i) h (pow-lt l)) (pow-lt l)

-- ---- as the machine does it, in 64 bits

-- a 1 shifted to place i is 2 ^ i
pub one_shl : (i : ℕ) → i < 64 → (1 * 2 ^ i) % 2 ^ 64 ≡ 2 ^ i
one_shl i h = shl_exact {a = 1} 1 i 64 (omega arith) (omega arith) ∙ one-mul (2 ^ i)

pub set_bit_code : (m i : ℕ) → i < 64 → bit_or m ((1 * 2 ^ i) % 2 ^ 64) ≡ set_bit m i
unfolding set_bit
set_bit_code m i h = ap (bit_or m) (one_shl i h)

pub clear_bit_code : (m i : ℕ) → i < 64 → bit_xor (bit_or m ((1 * 2 ^ i) % 2 ^ 64)) ((1 * 2 ^ i) % 2 ^ 64) ≡ clear_bit m i
unfolding clear_bit
clear_bit_code m i h = ap (λ (x : ℕ). bit_xor (bit_or m x) x) (one_shl i h)
