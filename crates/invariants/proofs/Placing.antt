-- What follows from specs/Placing.antt.
use Rattle.std.specs.Prelude.{ℕ, ◌+◌, ◌-◌, ◌*◌, ◌/◌, ◌%◌, ◌≤◌, ◌<◌, ◌≡◌, ◌⊎◌}
use Rattle.std.proofs.Common.{mul_assoc, arith, ap, sym, ◌∙◌, inl, inr}
use Rattle.std.proofs.Math.Nat.{lt-div-mul-add, mul-mod_left}
use Rattle.definition.specs.Calls.{up_to, wanted, place, keeps}
use Rattle.invariants.specs.Order.{Inside}
use Rattle.invariants.specs.Placing.{Align, place_most}

-- no alignment is 0
pub align_pos : (a : ℕ) → Align a → 0 < a
align_pos a (inl e) = omega arith
align_pos a (inr e) = e.0

-- ---- the place

-- the multiple is behind the block's start
up_low : (a x : ℕ) → 0 < a → 2 * x + 1 ≤ up_to a (2 * x + 1)
up_low a x h = omega (arith, lt-div-mul-add {a = 2 * x + 1 + (a - 1)} h)

-- the payload is behind the header
pub place_some : (a x : ℕ) → 0 < a → 1 ≤ place a x
place_some a x h = omega (arith, up_low a x h)

-- where the payload stands in the arena
place_is : (a x : ℕ) → 0 < a → 2 * x + place a x ≡ up_to a (2 * x + 1)
place_is a x h = omega (arith, up_low a x h)

-- it is at a multiple of the alignment
pub place_aligned : (a x : ℕ) → 0 < a → (2 * x + place a x) % a ≡ 0
place_aligned a x h = ap (λ (n : ℕ). n % a) (place_is a x h) ∙ mul-mod_left ((2 * x + 1 + (a - 1)) / a) a

-- a multiple of an even number is even
even_times : (q a : ℕ) → a % 2 ≡ 0 → q * a % 2 ≡ 0
even_times q a e =
    let f : a ≡ a / 2 * 2 = omega arith in
    ap (λ (n : ℕ). q * n % 2) f ∙ ap (λ (n : ℕ). n % 2) (sym (mul_assoc q (a / 2) 2)) ∙ mul-mod_left (q * (a / 2)) 2

-- half a grain behind the block's start, or at a grain
pub place_kind : (a x : ℕ) → Align a → (place a x ≡ 1) ⊎ (place a x % 2 ≡ 0)
place_kind a x (inl e) = inl (omega (arith, place_most a x (omega arith), place_some a x (omega arith)))
place_kind a x (inr e) = inr (omega (arith, place_is a x e.0, even_times ((2 * x + 1 + (a - 1)) / a) a e.1))

-- ---- what the block keeps

-- room for the payload behind its place
pub keeps_holds : (d p : ℕ) → d + p ≤ 2 * keeps d p
keeps_holds d p = omega arith

-- never nothing
pub keeps_some : (d p : ℕ) → 1 ≤ d → 1 ≤ keeps d p
keeps_some d p h = omega arith

-- the payload's place is one inside the block
pub place_inside : (a x p : ℕ) → Align a → Inside (keeps (place a x) p) (place a x)
place_inside a x p h = record {
  some = place_some a x (align_pos a h);
  within = omega (arith, keeps_holds (place a x) p);
  kind = place_kind a x h;
}

-- not more than what is looked for
pub keeps_wanted : (a x p : ℕ) → 0 < a → keeps (place a x) p ≤ wanted p a
keeps_wanted a x p h = omega (arith, place_most a x h)

-- as code counts it, for the compiler to see that it is not 0
pub wanted_counted : (p a : ℕ) → 0 < a → (p + a - 1) / 2 + 1 ≡ wanted p a
wanted_counted p a h = omega arith

-- something is looked for
pub wanted_some : (p a : ℕ) → 0 < a → 1 ≤ wanted p a
wanted_some p a h = omega arith
