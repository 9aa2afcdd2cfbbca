-- A payload that is given back, by its offset x in bytes and an alignment a. The offset is of the small kind, 16 more
-- than a multiple of 32, or of the large kind, a multiple of 32, or of none. The alignment has to suit it: first that
-- is seen to, and then the offset's kind.
use Rattle.std.specs.Prelude.{ℕ, ◌-◌, ◌*◌, ◌/◌, ◌%◌, ◌^◌, ◌≤◌, ◌<◌, ◌≡◌, refl, ◌⊎◌, Result, MatchResult}
use Rattle.std.proofs.Common.{div-add-mod', arith, ap, sym, ◌∙◌, inl, inr, ⊎_elim}
use Rattle.std.specs.Int.Bits.{bit_and}
use Rattle.align.specs.Align.{Power}
use Rattle.refusal.specs.declared.Refusal.{Refusal}
use Rattle.refusal.specs.declared.Refusal.TheVariants.{NoList, OutOfRange, NotLive, Misplaced, Damaged, TooShort}
use Rattle.request.specs.Alignment.{Alignment, rest_masked, power_beside, divides_times}

abbrev pub Small : ℕ → Type 0
Small x = x % 32 ≡ 16

abbrev pub Large : ℕ → Type 0
Large x = x % 32 ≡ 0

abbrev pub OfKind : ℕ → Type 0
OfKind x = Small x ⊎ Large x

-- the alignment is one, divides the offset, and is not of the other kind
pub record Suits (x a : ℕ) : Type 0 where
  pub alignment : Alignment a
  pub divides : x % a ≡ 0
  pub small : Small x → a < 32
  pub large : Large x → 32 ≤ a

-- offset and alignment are a payload's, the one of number q in half grains
pub record Stands (x a q : ℕ) : Type 0 where
  pub suits : Suits x a
  pub kind : OfKind x
  pub number : q ≡ x / 16

-- what is wrong: the alignment, or else the offset
abbrev pub Wrong : ℕ → ℕ → Refusal → Type 0
Wrong x a NoList = ⊥
Wrong x a OutOfRange = Suits x a → ⊥
Wrong x a NotLive = Suits x a × (OfKind x → ⊥)
Wrong x a Misplaced = ⊥
Wrong x a Damaged = ⊥
Wrong x a TooShort = ⊥

-- the payload's number, or what is wrong
abbrev pub Returned : ℕ → ℕ → Result ℕ Refusal → Type 0
Returned x a r = MatchResult r (Stands x a) (Wrong x a)

-- ---- as the code has it

-- no alignment
pub unsuited_none : (x a : ℕ) → (Alignment a → ⊥) → Suits x a → ⊥
unsuited_none x a h s = h s.alignment

-- it doesn't divide the offset
pub unsuited_rest : (x a : ℕ) → (bit_and x (a - 1) ≡ 0 → ⊥) → Suits x a → ⊥
unsuited_rest x a h s = h (rest_masked x a s.alignment.power ∙ s.divides)

-- an alignment of the large kind divides only offsets of that kind
pub large_divides : (x a : ℕ) → Power a → 32 ≤ a → x % a ≡ 0 → Large x
large_divides x a p h e =
    let v : x ≡ x / a * a = omega (arith, div-add-mod' x a) in
    ⊎_elim
    (λ (l : a < 2 ^ 5). absurd (omega arith))
    (λ (l : a % 2 ^ 5 ≡ 0). ap (λ (z : ℕ). z % 32) v ∙ divides_times (x / a) a 32 l)
    (power_beside 5 a p)

-- of the large kind
pub returned_large : (x a : ℕ) → Alignment a → bit_and x (a - 1) ≡ 0 → 32 ≤ a → Stands x a (x / 16)
returned_large x a l d h =
    let e : x % a ≡ 0 = sym (rest_masked x a l.power) ∙ d in
    let k = large_divides x a l.power h e in
    record {
      suits = record { alignment = l; divides = e; small = λ s. absurd (omega arith); large = λ s. h };
      kind = inr k;
      number = refl;
    }

-- a small alignment for an offset of the large kind
pub unsuited_kind : (x a : ℕ) → a < 32 → Large x → Suits x a → ⊥
unsuited_kind x a h k s = omega (arith, s.large k)

-- a small alignment suits whatever it divides, but for the large kind
suits_small : (x a : ℕ) → Alignment a → bit_and x (a - 1) ≡ 0 → a < 32 → (Large x → ⊥) → Suits x a
suits_small x a l d h k = record {
  alignment = l;
  divides = sym (rest_masked x a l.power) ∙ d;
  small = λ s. h;
  large = λ s. absurd (k s);
}

-- of the small kind
pub returned_small : (x a : ℕ) → Alignment a → bit_and x (a - 1) ≡ 0 → a < 32 → (Large x → ⊥) → Small x → Stands x a (x / 16)
returned_small x a l d h k s = record { suits = suits_small x a l d h k; kind = inl s; number = refl }

-- of no kind
pub returned_none : (x a : ℕ) → Alignment a → bit_and x (a - 1) ≡ 0 → a < 32 → (Large x → ⊥) → (Small x → ⊥) → Suits x a × (OfKind x → ⊥)
returned_none x a l d h k s = (suits_small x a l d h k, ⊎_elim s k)
