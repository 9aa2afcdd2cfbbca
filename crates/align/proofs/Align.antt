-- What follows from specs/Align.antt.
use Rattle.std.specs.Prelude.{ℕ, ◌+◌, ◌-◌, ◌*◌, ◌/◌, ◌%◌, ◌^◌, ◌≤◌, ◌<◌, ◌≡◌}
use Rattle.std.proofs.Common.{div-mul-le_self, mul-add, mul-le-mul_left, mul-one, arith, ap, sym, subst, ◌∙◌, ⊎_elim, pow_pos}
use Rattle.std.proofs.Math.Nat.{lt-div-mul-add, mul-mod_left, div-add-mod}
use Rattle.choice.specs.Choice.{le?}
use Rattle.align.specs.Align.{Power, Rounded, RoundedDown}

-- no power of two is 0
pub power_pos : (a : ℕ) → Power a → 0 < a
power_pos a p = subst (λ (z : ℕ). 0 < z) (sym p.1) (pow_pos p.0)

-- a multiple is as often a as it has a in it
times : (r a : ℕ) → r % a ≡ 0 → r ≡ a * (r / a)
times r a e = omega (arith, div-add-mod r a)

-- two multiples of a that differ are a apart
pub multiples_apart : (r s a : ℕ) → r % a ≡ 0 → s % a ≡ 0 → r < s → r + a ≤ s
multiples_apart r s a e f l =
    let p = r / a in
    let q = s / a in
    let u : r ≡ a * p = times r a e in
    let v : s ≡ a * q = times s a f in
    let o : p < q = ⊎_elim
    (λ (h : q ≤ p). let m = mul-le-mul_left a h in absurd (omega arith))
    (λ (h : p < q). h)
    (le? q p) in
    omega (arith, mul-le-mul_left {m = p + 1} {n = q} a (omega arith), mul-add a p 1, mul-one a)

-- rounding up gives the first multiple: any other at or after x is not less
pub rounded_first : (x a r m : ℕ) → Rounded x a r → m % a ≡ 0 → x ≤ m → r ≤ m
rounded_first x a r m h e l = ⊎_elim
    (λ (p : r ≤ m). p)
    (λ (p : m < r). omega (arith, multiples_apart m r a e h.multiple p, h.high))
    (le? r m)

-- rounding down gives the last: any other at or before x is not more
pub rounded_last : (x a r m : ℕ) → RoundedDown x a r → m % a ≡ 0 → m ≤ x → m ≤ r
rounded_last x a r m h e l = ⊎_elim
    (λ (p : m ≤ r). p)
    (λ (p : r < m). omega (arith, multiples_apart r m a h.multiple e p, h.low))
    (le? m r)

-- so there is one answer
pub rounded_one : (x a r s : ℕ) → Rounded x a r → Rounded x a s → r ≡ s
rounded_one x a r s h k =
    let p = rounded_first x a r s h k.multiple (omega (arith, k.low)) in
    let q = rounded_first x a s r k h.multiple (omega (arith, h.low)) in
    omega arith

pub rounded_down_one : (x a r s : ℕ) → RoundedDown x a r → RoundedDown x a s → r ≡ s
rounded_down_one x a r s h k =
    omega (arith, rounded_last x a r s h k.multiple k.high, rounded_last x a s r k h.multiple h.high)

-- a multiple is rounded to itself
pub rounded_self : (x a : ℕ) → 0 < a → x % a ≡ 0 → Rounded x a x
rounded_self x a h e = record { multiple = e; low = omega arith; high = omega arith }

-- ---- by shifts

-- rounding up by the shift that a power gives
pub round_up_by : (x a t : ℕ) → a ≡ 2 ^ t → Rounded x a ((x + (a - 1)) / 2 ^ t * 2 ^ t)
round_up_by x a t e =
    let y = x + (a - 1) in
    let p = pow_pos t in
    record {
      multiple = ap (λ (z : ℕ). y / 2 ^ t * 2 ^ t % z) e ∙ mul-mod_left (y / 2 ^ t) (2 ^ t);
      low = omega (arith, lt-div-mul-add {a = y} p);
      high = omega (arith, div-mul-le_self y (2 ^ t));
    }

-- rounding down
pub round_down_by : (x a t : ℕ) → a ≡ 2 ^ t → RoundedDown x a (x / 2 ^ t * 2 ^ t)
round_down_by x a t e = record {
  multiple = ap (λ (z : ℕ). x / 2 ^ t * 2 ^ t % z) e ∙ mul-mod_left (x / 2 ^ t) (2 ^ t);
  low = omega (arith, lt-div-mul-add {a = x} (pow_pos t));
  high = div-mul-le_self x (2 ^ t);
}
