-- A request of n bytes at a multiple of a: when it is in range, and its numbers in half grains and grains. What is
-- looked for, in bytes, is the number of rlsf: n + 16, and what the alignment has beyond 16, rounded up to 32.
use Rattle.std.specs.Prelude.{ℕ, ◌+◌, ◌-◌, ◌*◌, ◌^◌, ◌≤◌, ◌<◌, ◌≡◌, refl, Result, MatchResult}
use Rattle.std.proofs.Common.{arith, ap, ◌∙◌}
use Rattle.align.specs.Align.{Power}
use Rattle.definition.specs.Calls.{up_to, grains, wanted}
use Rattle.definition.specs.Units.{halves, multiple as multiple_of}
use Rattle.refusal.specs.declared.Refusal.{Refusal}
use Rattle.refusal.specs.declared.Refusal.TheVariants.{OutOfRange}
use Rattle.request.specs.declared.Request.{Request}
use Rattle.request.specs.Alignment.{Alignment, multiple_bytes}

-- what is looked for, in bytes
abbrev pub sought : ℕ → ℕ → ℕ
sought n a = up_to 32 (n + 16 + (a - 16))

-- 2 ^ 64 less 32: the last multiple of 32 in 64 bits
abbrev pub end : ℕ
end = 18446744073709551584

-- the alignment is one, and what is looked for stays in 64 bits
pub record InRange (n a : ℕ) : Type 0 where
  pub alignment : Alignment a
  pub fits : sought n a < 2 ^ 64

-- what the answer's numbers are
pub record Numbers (n a : ℕ) (r : Request) : Type 0 where
  pub range : InRange n a
  pub length : r.length ≡ halves 16 n
  pub multiple : r.multiple ≡ multiple_of 16 a
  pub wanted : r.wanted ≡ wanted (halves 16 n) (multiple_of 16 a)

-- in range, with its numbers, or refused because it is out of range
abbrev pub Asked : ℕ → ℕ → Result Request Refusal → Type 0
Asked n a r = MatchResult r (Numbers n a) (λ e. (e ≡ OutOfRange) × (InRange n a → ⊥))

-- ---- what is looked for

-- the definition's number of grains is rlsf's number of bytes
pub wanted_bytes : (n a : ℕ) → Power a → 32 * wanted (halves 16 n) (multiple_of 16 a) ≡ sought n a
wanted_bytes n a p = omega (arith, multiple_bytes a p)

-- ---- as the code has it

-- no alignment
pub asked_no_alignment : (n a : ℕ) → (Alignment a → ⊥) → InRange n a → ⊥
asked_no_alignment n a h r = h r.alignment

-- too long, by the last multiple of 32 in 64 bits
pub asked_too_long : (n a m : ℕ) → m ≡ multiple_of 16 a → end - 16 * m < n → InRange n a → ⊥
asked_too_long n a m e h r = omega (arith, multiple_bytes a r.alignment.power, r.fits)

-- no sum leaves 64 bits
pub asked_small : (a m : ℕ) → Alignment a → m ≡ multiple_of 16 a → 16 * m ≤ 4096
asked_small a m l e = omega (arith, l.most)

-- in range, with its numbers
pub asked_numbers :
    (n a m w : ℕ) → Alignment a → m ≡ multiple_of 16 a → n ≤ end - 16 * m → w ≡ grains (halves 16 n + m)
    → Numbers n a (record { length = halves 16 n; multiple = m; wanted = w })
asked_numbers n a m w l e h g = record {
  range = record { alignment = l; fits = omega (arith, multiple_bytes a l.power, l.most) };
  length = refl;
  multiple = e;
  wanted = g ∙ ap (λ (z : ℕ). grains (halves 16 n + z)) e;
}
