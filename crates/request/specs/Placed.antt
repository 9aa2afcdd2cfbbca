-- The payload's place in its block, as the code finds it: a place is a multiple of the alignment, so it is the
-- alignment less what the block's start is beyond one.
use Rattle.std.specs.Prelude.{ℕ, ◌+◌, ◌-◌, ◌*◌, ◌/◌, ◌%◌, ◌≤◌, ◌<◌, ◌≡◌}
use Rattle.std.proofs.Math.Nat.{add-div_right}
use Rattle.std.proofs.Common.{add-mul, one-mul, div-add-mod', mod-lt, arith, ap, ◌∙◌}
use Rattle.std.specs.Int.Bits.{bit_and}
use Rattle.align.specs.Align.{Power}
use Rattle.align.proofs.Align.{power_pos}
use Rattle.definition.specs.Calls.{place}
use Rattle.request.specs.Alignment.{rest_masked}

-- by the rest
pub place_rest : (a y : ℕ) → 0 < a → a - 2 * y % a ≡ place a y
place_rest a y h =
    let e : 2 * y + 1 + (a - 1) ≡ 2 * y + a = omega arith in
    let q : (2 * y + a) / a * a ≡ 2 * y / a * a + a =
    ap (λ (z : ℕ). z * a) (add-div_right (2 * y) h) ∙ add-mul (2 * y / a) 1 a ∙ ap (λ (z : ℕ). 2 * y / a * a + z) (one-mul a) in
    omega (arith, ap (λ (z : ℕ). z / a * a) e, q, div-add-mod' (2 * y) a, mod-lt (2 * y) h)

-- by the mask
pub place_masked : (a y : ℕ) → Power a → a - bit_and (2 * y) (a - 1) ≡ place a y
place_masked a y p = ap (λ (z : ℕ). a - z) (rest_masked (2 * y) a p) ∙ place_rest a y (power_pos a p)

-- the rest is less than the alignment
pub rest_most : (x a : ℕ) → Power a → bit_and x (a - 1) ≤ a
rest_most x a p = omega (arith, rest_masked x a p, mod-lt x (power_pos a p))
