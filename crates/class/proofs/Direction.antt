-- Which way a size is shifted to find its list.
--
-- Counted in bytes, the four bits of a size right below its highest 1 bit come from a rotation to the right by
-- log2 of the size, less 4. As a shift this has two cases: to the right where log2 is at least 4, and else to the left.
-- Only the right one happens: a block has at least one grain, and a grain has at least 16 bytes. With grains of 32
-- bytes the shift is always by one place or more. Shifting to the left would take a block of less than 16 bytes.
--
-- In grains the same list comes out: `in_bytes` says it for every grain of 2 ^ e bytes, e at least 4.
use Rattle.std.specs.Prelude.{ℕ, ◌+◌, ◌-◌, ◌*◌, ◌/◌, ◌^◌, ◌≤◌, ◌<◌, ◌≡◌}
use Rattle.std.proofs.Common.{mul_assoc, mul-le-mul_left, arith, ap, ◌∙◌, pow_pos, pow-add}
use Rattle.std.proofs.Math.Nat.{mul-lt-mul_of_pos_left, mul-div-mul_left}
use Rattle.class.specs.Log.{log}
use Rattle.class.proofs.Log.{log_top, log_is, log_ge}
use Rattle.class.specs.Class.{list_of}

-- no block of 16 bytes or more asks for a shift to the left
pub never_left : (bytes : ℕ) → 16 ≤ bytes → log bytes < 4 → ⊥
never_left bytes h l = omega (arith, log_ge 4 bytes h)

-- a block of 32 bytes or more is shifted to the right, by one place at least
pub always_right : (bytes : ℕ) → 32 ≤ bytes → 0 < log bytes - 4
always_right bytes h = omega (arith, log_ge 5 bytes h)

-- a grain of 2 ^ e bytes moves the highest bit up by e places
pub log_bytes : (e s : ℕ) → 0 < s → log (2 ^ e * s) ≡ e + log s
log_bytes e s h =
    let t = log_top s h in
    let p : 2 ^ e * 2 ^ log s ≤ 2 ^ e * s = mul-le-mul_left (2 ^ e) t.0 in
    let q : 2 ^ e * s < 2 ^ e * 2 ^ (log s + 1) = mul-lt-mul_of_pos_left t.1 (pow_pos e) in
    let a : e + log s + 1 ≡ e + (log s + 1) = omega arith in
    log_is (2 ^ e * s) (e + log s) (rw (pow-add 2 e (log s)) p) (rw (a, pow-add 2 e (log s + 1)) q)

-- the list of s grains, by a shift of its bytes to the right
pub in_bytes :
    (e s : ℕ) → 4 ≤ e → 0 < s
    → list_of s ≡ 16 * (log (2 ^ e * s) - e) + 2 ^ e * s / 2 ^ (log (2 ^ e * s) - 4) - 16
unfolding list_of
in_bytes e s l h =
    let d = e - 4 in
    let f = log s in
    let a : e + f - e ≡ f = omega arith in
    let b : e + f - 4 ≡ d + f = omega arith in
    let c : 2 ^ e ≡ 2 ^ d * 16 = ap (λ (x : ℕ). 2 ^ x) (omega arith) ∙ pow-add 2 d 4 in
    let m : 2 ^ e * s ≡ 2 ^ d * (16 * s) = ap (λ (x : ℕ). x * s) c ∙ mul_assoc (2 ^ d) 16 s in
    let q : 2 ^ e * s / 2 ^ (d + f) ≡ 16 * s / 2 ^ f = rw (m, pow-add 2 d f) (mul-div-mul_left (16 * s) (2 ^ f) (pow_pos d)) in
    rw (log_bytes e s h, a, b, q)
