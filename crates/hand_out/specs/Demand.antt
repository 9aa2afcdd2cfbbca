-- What is asked for, in half grains: p of them at a multiple of u.
use Rattle.std.specs.Prelude.{ℕ, ◌^◌, ◌/◌, ◌%◌, ◌≤◌, ◌<◌, ◌≡◌}
use Rattle.std.proofs.Common.{arith, inl, inr, ⊎_elim, sym, ◌∙◌}
use Rattle.std.proofs.Math.Pow.{pow-lt}
use mathlib.Core.HLevel.{Σ_prop_path}
use native.Mathlib.Nat.{ℕ_set}
use Rattle.choice.specs.Choice.{le?}
use Rattle.align.specs.Align.{Power}
use Rattle.align.proofs.Align.{power_pos}
use Rattle.request.specs.Alignment.{power_beside}
use Rattle.invariants.specs.Placing.{Align}
use Rattle.machine.specs.Machine.{words, grain}

pub record Demand (p u : ℕ) : Type 0 where
  pub power : Power u
  pub align : Align u
  pub most : u < words / grain
  pub fits : p < words / 2

-- a power of two is an alignment
pub power_align : (n : ℕ) → Power n → Align n
power_align n h = ⊎_elim (λ (e : n < 2 ^ 1). inl (omega (arith, power_pos n h))) (λ (e : n % 2 ^ 1 ≡ 0). inr (power_pos n h, e)) (power_beside 1 n h)

-- a number is a power of two in one way
same_power : (i j : ℕ) → 2 ^ i ≡ 2 ^ j → i ≡ j
same_power i j e = ⊎_elim
    (λ (h : i ≤ j). ⊎_elim (λ (k : j ≤ i). omega (arith, h, k)) (λ (k : i < j). absurd (omega (arith, e, pow-lt k))) (le? j i))
    (λ (h : j < i). absurd (omega (arith, e, pow-lt h)))
    (le? i j)

pub power_prop : (n : ℕ) → IsProp (Power n)
power_prop n h k = Σ_prop_path (λ t. ℕ_set n (2 ^ t)) (same_power h.0 k.0 (sym h.1 ∙ k.1))
