-- Offsets in bytes and places in half grains: what a call asks for is at an alignment of the definition, and at a multiple of it.
use Rattle.std.specs.Prelude.{ℕ, ◌*◌, ◌/◌, ◌%◌, ◌≤◌, ◌<◌, ◌≡◌}
use Rattle.std.proofs.Common.{div-add-mod', mul_assoc, arith, ap, sym, ◌∙◌, inl, inr, ⊎_elim}
use Rattle.std.proofs.Math.Nat.{mul-mod_left, mod-one}
use Rattle.choice.specs.Choice.{le?, same?}
use Rattle.definition.specs.Units.{multiple}
use Rattle.invariants.specs.Placing.{Align}
use Rattle.request.specs.Alignment.{multiple_align, multiple_bytes}
use Rattle.request.specs.Asked.{InRange}
use Rattle.request.specs.Returned.{OfKind, Stands}
use Rattle.machine.specs.Machine.{half}
use Rattle.plans.specs.Calls.{Call, Fair}
use Rattle.promises.specs.Bytes.{ByteCall, AtHalf, Asks, take, back, resize, give, follow}

-- a payload's offset in bytes is its place in half grains
pub stands_offset : {x a q : ℕ} → Stands x a q → half * q ≡ x
stands_offset s = ⊎_elim (λ e. omega (arith, s.number)) (λ e. omega (arith, s.number)) s.kind

pub half_offset : (x : ℕ) → AtHalf x → half * (x / half) ≡ x
half_offset x e = omega arith

-- an offset of a kind is one of half grains
pub kind_half : (x : ℕ) → OfKind x → AtHalf x
kind_half x k = ⊎_elim (λ e. omega arith) (λ e. omega arith) k

pub half_kind : (x : ℕ) → AtHalf x → OfKind x
half_kind x e = ⊎_elim
    (λ (i : x / half % 2 ≡ 0). inr (omega arith))
    (λ (i : x / half % 2 ≡ 0 → ⊥). inl (omega (arith, i)))
    (same? (x / half % 2) 0)

-- where the alignment suits the offset, the place is a multiple of it
pub stands_multiple : {x a q : ℕ} → Stands x a q → q % multiple half a ≡ 0
stands_multiple {x} {a} {q} s = ⊎_elim large small (le? half a)
  where
    large : half ≤ a → q % multiple half a ≡ 0
    large h =
        let m = multiple half a in
        let f : a ≡ m * half = omega (arith, multiple_bytes a s.suits.alignment.power) in
        let e : x ≡ x / a * a = omega (arith, div-add-mod' x a, s.suits.divides) in
        let g : x / a * a ≡ x / a * m * half = ap (λ (z : ℕ). x / a * z) f ∙ sym (mul_assoc (x / a) m half) in
        let k : q ≡ x / a * m = omega (arith, e, g, stands_offset s) in
        ap (λ (z : ℕ). z % m) k ∙ mul-mod_left (x / a) m

    small : a < half → q % multiple half a ≡ 0
    small h =
        let e : multiple half a ≡ 1 = omega arith in
        ap (λ (z : ℕ). q % z) e ∙ mod-one q

-- the alignment is one of the definition
pub range_align : {n a : ℕ} → InRange n a → Align (multiple half a)
range_align {n} {a} r = multiple_align a r.alignment.power

-- so what is asked for is fair
pub asks_fair : (k : ByteCall) (K : Call) → Asks k K → Fair K
asks_fair k K (take r) = range_align r
asks_fair k K (back e) = tt
asks_fair k K (resize r s) = (range_align r, stands_multiple s)
asks_fair k K give = tt
asks_fair k K follow = tt
