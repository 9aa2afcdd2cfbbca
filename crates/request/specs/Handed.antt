-- What is handed out can be given back: the payload that a block at grain y gets for an alignment a stands at an offset
-- that a suits, so it is never refused for its alignment or its kind, and its number is found again.
use Rattle.std.specs.Prelude.{ℕ, ◌+◌, ◌-◌, ◌*◌, ◌/◌, ◌%◌, ◌^◌, ◌≤◌, ◌<◌, ◌≡◌, Result, Ok, Err}
use Rattle.std.proofs.Common.{div-add-mod', mul_assoc, arith, ap, sym, ◌∙◌, inl, inr, ⊎_elim}
use Rattle.std.proofs.Math.Nat.{mul-mod_left}
use Rattle.std.proofs.Math.Pow.{pow-lt}
use Rattle.choice.specs.Choice.{le?}
use Rattle.align.specs.Align.{Power}
use Rattle.definition.specs.Calls.{place}
use Rattle.definition.specs.Units.{multiple as multiple_of}
use Rattle.invariants.specs.Placing.{place_most}
use Rattle.invariants.proofs.Placing.{align_pos, place_aligned, place_some}
use Rattle.refusal.specs.declared.Refusal.{Refusal}
use Rattle.refusal.specs.declared.Refusal.TheVariants.{NoList, OutOfRange, NotLive, Misplaced, Damaged, TooShort}
use Rattle.request.specs.Alignment.{Alignment, pow_split, divides_times, multiple_align, multiple_bytes}
use Rattle.request.specs.Returned.{Large, OfKind, Suits, Wrong, Returned, large_divides}

-- the payload's number, for an alignment in bytes
abbrev pub handed : ℕ → ℕ → ℕ
handed a y = 2 * y + place (multiple_of 16 a) y

-- a power of two from 16 on divides half grains at a multiple, a smaller one all of them
pub half_divides : (a q : ℕ) → Power a → q % multiple_of 16 a ≡ 0 → 16 * q % a ≡ 0
half_divides a q p e = ⊎_elim large small (le? 16 a)
  where
    large : 16 ≤ a → 16 * q % a ≡ 0
    large h =
        let m = multiple_of 16 a in
        let f : a ≡ m * 16 = omega (arith, multiple_bytes a p) in
        let g : 16 * q ≡ q / m * m * 16 = omega (arith, div-add-mod' q m) in
        ap (λ (z : ℕ). z % a) (g ∙ mul_assoc (q / m) m 16 ∙ ap (λ (z : ℕ). q / m * z) (sym f)) ∙ mul-mod_left (q / m) a

    small : a < 16 → 16 * q % a ≡ 0
    small h =
        let t : p.0 ≤ 4 = ⊎_elim (λ (l : p.0 ≤ 4). l) (λ (l : 4 < p.0). absurd (omega (arith, p.1, pow-lt l))) (le? p.0 4) in
        let f : 16 ≡ 2 ^ (4 - p.0) * a = pow_split p.0 4 t ∙ ap (λ (z : ℕ). 2 ^ (4 - p.0) * z) (sym p.1) in
        let g : 16 % a ≡ 0 = ap (λ (z : ℕ). z % a) f ∙ mul-mod_left (2 ^ (4 - p.0)) a in
        let c : 16 * q ≡ q * 16 = omega arith in
        ap (λ (z : ℕ). z % a) c ∙ divides_times q 16 a g

-- right behind the header there is nothing of the large kind
behind_header : (y d : ℕ) → d ≡ 1 → Large (16 * (2 * y + d)) → ⊥
behind_header y d e k =
    let z = 16 * (2 * y + d) / 32 in
    ⊎_elim (λ (h : z ≤ y). absurd (omega arith)) (λ (h : y < z). absurd (omega arith)) (le? z y)

module _ (a y : ℕ) (l : Alignment a) where
  some : 0 < multiple_of 16 a
  some = align_pos (multiple_of 16 a) (multiple_align a l.power)

  divides : 16 * handed a y % a ≡ 0
  divides = half_divides a (handed a y) l.power (place_aligned (multiple_of 16 a) y some)

  first : a < 32 → place (multiple_of 16 a) y ≡ 1
  first h =
      let e : multiple_of 16 a ≤ 1 = omega arith in
      omega (arith, place_some (multiple_of 16 a) y some, place_most (multiple_of 16 a) y some, e)

  -- its offset suits the alignment
  pub handed_suits : Suits (16 * handed a y) a
  handed_suits = record {
    alignment = l;
    divides = divides;
    small = λ s. ⊎_elim
        (λ (h : 32 ≤ a). let k = large_divides (16 * handed a y) a l.power h divides in absurd (omega arith))
        (λ (h : a < 32). h)
        (le? 32 a);
    large = λ s. ⊎_elim
        (λ (h : 32 ≤ a). h)
        (λ (h : a < 32). absurd (behind_header y (place (multiple_of 16 a) y) (first h) s))
        (le? 32 a);
  }

  -- and is of a kind
  pub handed_kind : OfKind (16 * handed a y)
  handed_kind = ⊎_elim
      (λ (h : handed a y % 2 ≤ 0). inr (omega arith))
      (λ (h : 0 < handed a y % 2). inl (omega arith))
      (le? (handed a y % 2) 0)

  -- so only one answer is right
  pub handed_back : (r : Result ℕ Refusal) → Returned (16 * handed a y) a r → r ≡ Ok (handed a y)
  handed_back (Ok q) s = ap Ok (omega (arith, s.number))
  handed_back (Err e) s = absurd (unwronged e s)
    where
      unwronged : (e : Refusal) → Wrong (16 * handed a y) a e → ⊥
      unwronged NoList w = w
      unwronged OutOfRange w = w handed_suits
      unwronged NotLive w = w.1 handed_kind
      unwronged Misplaced w = w
      unwronged Damaged w = w
      unwronged TooShort w = w
