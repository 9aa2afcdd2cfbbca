-- Alignments that a caller may ask for, and what they are in half grains. A power of two is below another one, or a
-- multiple of it: so what stands below 16 is one half grain, 16 is one, and from 32 on an alignment is an even number.
use Rattle.std.specs.Prelude.{ℕ, ◌+◌, ◌-◌, ◌*◌, ◌/◌, ◌%◌, ◌^◌, ◌≤◌, ◌<◌, ◌≡◌, Bool, true, false, ◌⊎◌}
use Rattle.std.proofs.Math.Nat.{mul-mod_left}
use Rattle.std.proofs.Common.{mul_assoc, div-add-mod', arith, ap, sym, subst, ◌∙◌, inl, inr, ⊎_elim, pow-add}
use Rattle.std.specs.Int.Bits.{bit_and}
use Rattle.std.proofs.lemmas.Nat.{and_mask}
use Rattle.std.proofs.Math.Pow.{pow-lt}
use Rattle.choice.specs.Choice.{le?}
use Rattle.choice.specs.Says.{Says}
use Rattle.align.specs.Align.{Power}
use Rattle.align.proofs.Align.{power_pos}
use Rattle.definition.specs.Units.{multiple as multiple_of}
use Rattle.invariants.specs.Placing.{Align}

-- a power of two of at most 4,096
pub record Alignment (a : ℕ) : Type 0 where
  pub power : Power a
  pub most : a ≤ 4096

-- ---- powers of two beside each other

-- a power with 2 ^ k taken out
pub pow_split : (k t : ℕ) → k ≤ t → 2 ^ t ≡ 2 ^ (t - k) * 2 ^ k
pow_split k t h =
    let e : t ≡ t - k + k = omega arith in
    ap (λ (z : ℕ). 2 ^ z) e ∙ pow-add 2 (t - k) k

-- below another power, or a multiple of it
pub power_beside : (k a : ℕ) → Power a → (a < 2 ^ k) ⊎ (a % 2 ^ k ≡ 0)
power_beside k a p = ⊎_elim
    (λ (h : k ≤ p.0). inr (ap (λ (z : ℕ). z % 2 ^ k) (p.1 ∙ pow_split k p.0 h) ∙ mul-mod_left (2 ^ (p.0 - k)) (2 ^ k)))
    (λ (h : p.0 < k). inl (subst (λ (z : ℕ). z < 2 ^ k) (sym p.1) (pow-lt h)))
    (le? k p.0)

-- what divides a number divides its multiples
pub divides_times : (k b a : ℕ) → b % a ≡ 0 → k * b % a ≡ 0
divides_times k b a e =
    let f : b ≡ b / a * a = omega (arith, div-add-mod' b a) in
    ap (λ (z : ℕ). k * z % a) f ∙ ap (λ (z : ℕ). z % a) (sym (mul_assoc k (b / a) a)) ∙ mul-mod_left (k * (b / a)) a

-- a number's rest by a power of two is cut out by the power less 1
pub rest_masked : (x a : ℕ) → Power a → bit_and x (a - 1) ≡ x % a
rest_masked x a p = subst (λ (z : ℕ). bit_and x (z - 1) ≡ x % z) (sym p.1) (and_mask x p.0)

-- ---- in half grains

-- one, or even: what the definition calls an alignment
pub multiple_align : (a : ℕ) → Power a → Align (multiple_of 16 a)
multiple_align a p = ⊎_elim
    (λ (h : a < 2 ^ 5). inl (omega arith))
    (λ (h : a % 2 ^ 5 ≡ 0). inr (omega (arith, power_pos a p), omega (arith, power_pos a p)))
    (power_beside 5 a p)

-- a power of two again
pub multiple_power : (a : ℕ) → Power a → Power (multiple_of 16 a)
multiple_power a p = ⊎_elim
    (λ (h : 4 ≤ p.0). (p.0 - 4, let e = p.1 ∙ pow_split 4 p.0 h in omega (arith, e, power_pos a p)))
    (λ (h : p.0 < 4). (0, omega (arith, p.1, pow-lt h)))
    (le? 4 p.0)

-- of at most 256
pub multiple_most : (a : ℕ) → a ≤ 4096 → multiple_of 16 a ≤ 256
multiple_most a h = omega arith

-- in bytes: 16, and what the alignment has beyond
pub multiple_bytes : (a : ℕ) → Power a → 16 * multiple_of 16 a ≡ 16 + (a - 16)
multiple_bytes a p = ⊎_elim
    (λ (h : a < 2 ^ 4). omega arith)
    (λ (h : a % 2 ^ 4 ≡ 0). omega (arith, power_pos a p))
    (power_beside 4 a p)

-- ---- the test, as the code makes it

-- above the largest there is none
pub above_most : (a : ℕ) → 4096 < a → Alignment a → ⊥
above_most a h l = omega (arith, l.most)

-- below it a power of two is one
pub below_most : (a : ℕ) (b : Bool) → a ≤ 4096 → Says (Power a) b → Says (Alignment a) b
below_most a true h s = record { power = s; most = h }
below_most a false h s = λ l. s l.power
