-- The same as the code has it, in 64 bits: the shift is the number of zeros below the power's bit, and no shift loses
-- a bit. Only the proofs of this crate use this file.
use Rattle.std.specs.Prelude.{ℕ, ◌==◌, ◌+◌, ◌-◌, ◌*◌, ◌/◌, ◌%◌, ◌^◌, ◌≤◌, ◌<◌, ◌≡◌}
use Rattle.std.proofs.Common.{div-mul-le_self, mod-eq_of_lt, lt_of_le_of_lt, arith, ap, sym, subst, ◌∙◌, ⊎_elim, pow_pos, pow_mono}
use Rattle.std.proofs.Math.Pow.{pow-lt}
use Rattle.std.specs.Int.Count.{count_trailing_zeros}
use Rattle.choice.specs.Says.{Says}
use Rattle.choice.proofs.Says.{says_eq, says_same}
use Rattle.choice.specs.Choice.{le?, same?}
use Rattle.bits.proofs.Bit.{one_shl, pow_bit_other}
use Rattle.bits.proofs.Zeros.{zeros_lt, zeros_place}
use Rattle.align.specs.Align.{Power, Rounded, RoundedDown}
use Rattle.align.proofs.Align.{power_pos, round_up_by, round_down_by}

-- the zeros below a power's bit
zeros_pow : (t : ℕ) → t < 64 → count_trailing_zeros 64 (2 ^ t) ≡ t
zeros_pow t h = ⊎_elim
    (λ (e : t ≡ count_trailing_zeros 64 (2 ^ t)). sym e)
    (λ (ne : t ≡ count_trailing_zeros 64 (2 ^ t) → ⊥).
    absurd (omega (arith, (zeros_place (2 ^ t) (pow_pos t) (pow-lt h)).1, pow_bit_other t (count_trailing_zeros 64 (2 ^ t)) ne)))
    (same? t (count_trailing_zeros 64 (2 ^ t)))

-- a power in 64 bits
small_power : (n t : ℕ) → n < 2 ^ 64 → n ≡ 2 ^ t → t < 64
small_power n t h e = ⊎_elim
    (λ (p : 64 ≤ t). let m = pow_mono {i = 64} {j = t} p in absurd (omega arith))
    (λ (p : t < 64). p)
    (le? 64 t)

module _ (a : ℕ) (h : a < 2 ^ 64) where
  -- the shift that a power gives
  pub power_is : Power a → a ≡ 2 ^ count_trailing_zeros 64 a
  power_is p =
      p.1 ∙ ap (λ (z : ℕ). 2 ^ z) (sym (ap (count_trailing_zeros 64) p.1 ∙ zeros_pow p.0 (small_power a p.0 h p.1)))

  pub shift_lt : 0 < a → count_trailing_zeros 64 a < 64
  shift_lt p = zeros_lt 64 a p h

  shifted : 0 < a → (1 * 2 ^ count_trailing_zeros 64 a) % 2 ^ 64 ≡ 2 ^ count_trailing_zeros 64 a
  shifted p = one_shl (count_trailing_zeros 64 a) (shift_lt p)

  -- the test: a 1 shifted up to the lowest bit set is the number, or it isn't
  pub test_yes : 0 < a → (1 * 2 ^ count_trailing_zeros 64 a) % 2 ^ 64 ≡ a → Power a
  test_yes p e = (count_trailing_zeros 64 a, sym e ∙ shifted p)

  pub test_no : 0 < a → ((1 * 2 ^ count_trailing_zeros 64 a) % 2 ^ 64 ≡ a → ⊥) → Power a → ⊥
  test_no p ne q = ne (shifted p ∙ sym (power_is q))

  -- both in one, as the code has it
  pub test_said : (a ≡ 0 → ⊥) → Says (Power a) ((1 * 2 ^ count_trailing_zeros 64 a) % 2 ^ 64 == a)
  test_said n =
      let e = one_shl (count_trailing_zeros 64 a) (zeros_place a (omega (arith, n)) h).0 in
      says_same ((1 * 2 ^ count_trailing_zeros 64 a) % 2 ^ 64 ≡ a) (Power a) ((1 * 2 ^ count_trailing_zeros 64 a) % 2 ^ 64 == a)
      (λ q. (count_trailing_zeros 64 a, sym q ∙ e)) (λ q. e ∙ sym (power_is q)) (says_eq ((1 * 2 ^ count_trailing_zeros 64 a) % 2 ^ 64) a)

-- 0 is none
pub test_zero : (a : ℕ) → a ≡ 0 → Power a → ⊥
test_zero a e p = let q = power_pos a p in omega arith

-- shifting down and up again loses nothing at the top
back : (y t : ℕ) → y < 2 ^ 64 → (y / 2 ^ t * 2 ^ t) % 2 ^ 64 ≡ y / 2 ^ t * 2 ^ t
back y t h = mod-eq_of_lt (lt_of_le_of_lt (div-mul-le_self y (2 ^ t)) h)

pub round_up_code :
    (x a : ℕ) → x + a < 2 ^ 64 → Power a
    → Rounded x a ((x + (a - 1)) / 2 ^ count_trailing_zeros 64 a * 2 ^ count_trailing_zeros 64 a % 2 ^ 64)
round_up_code x a f p =
    let t = count_trailing_zeros 64 a in
    subst (Rounded x a) (sym (back (x + (a - 1)) t (omega (arith, power_pos a p)))) (round_up_by x a t (power_is a (omega arith) p))

pub round_down_code :
    (x a : ℕ) → x < 2 ^ 64 → a < 2 ^ 64 → Power a
    → RoundedDown x a (x / 2 ^ count_trailing_zeros 64 a * 2 ^ count_trailing_zeros 64 a % 2 ^ 64)
round_down_code x a f h p =
    let t = count_trailing_zeros 64 a in
    subst (RoundedDown x a) (sym (back x t f)) (round_down_by x a t (power_is a h p))
