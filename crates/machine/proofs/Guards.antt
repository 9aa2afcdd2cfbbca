-- Guards are told apart: in an arena whose bytes a word can count, no guard word is 0 or all ones, and no two guard words
-- are the same, of whichever blocks and whichever of the two. The two kinds leave different rests by the bytes of a grain.
use Rattle.std.specs.Prelude.{◌≡◌, ℕ, ◌+◌, ◌-◌, ◌*◌, ◌/◌, ◌%◌, ◌<◌, ◌≤◌, ◌⊎◌}
use native.Mathlib.Omega.{arith}
use Rattle.std.proofs.Common.{inl, inr, ⊎_elim}
use Rattle.choice.specs.Choice.{le?}
use Rattle.machine.specs.Machine.{words, grain, first_pattern, second_pattern, guard_next, guard_prev}

-- ---- one guard word

module _ (x : ℕ) where
  -- it fits a word
  pub guard_next_word : guard_next x < words
  unfolding guard_next
  guard_next_word = omega arith

  pub guard_prev_word : guard_prev x < words
  unfolding guard_prev
  guard_prev_word = omega arith

  -- what it leaves
  pub guard_next_rest : guard_next x % grain ≡ first_pattern % grain
  unfolding guard_next
  guard_next_rest = omega arith

  pub guard_prev_rest : guard_prev x % grain ≡ second_pattern % grain
  unfolding guard_prev
  guard_prev_rest = omega arith

  -- it is not 0
  pub guard_next_some : guard_next x ≡ 0 → ⊥
  guard_next_some e = omega (arith, guard_next_rest)

  pub guard_prev_some : guard_prev x ≡ 0 → ⊥
  guard_prev_some e = omega (arith, guard_prev_rest)

  -- nor all ones
  pub guard_next_ones : guard_next x ≡ words - 1 → ⊥
  guard_next_ones e = omega (arith, guard_next_rest)

  pub guard_prev_ones : guard_prev x ≡ words - 1 → ⊥
  guard_prev_ones e = omega (arith, guard_prev_rest)

-- ---- two of them

-- a sum that wraps, or not
wrapped : (p a : ℕ) → p < words → a < words → ((p + a) % words ≡ p + a) ⊎ ((p + a) % words + words ≡ p + a)
wrapped p a h k = ⊎_elim
    (λ (l : words ≤ p + a). inr (omega arith))
    (λ (l : p + a < words). inl (omega arith))
    (le? words (p + a))

-- two numbers that come to the same sum are the same
wrapped_one : (p a b : ℕ) → p < words → a < words → b < words → (p + a) % words ≡ (p + b) % words → a ≡ b
wrapped_one p a b h k l e = go (wrapped p a h k) (wrapped p b h l)
  where
    go : ((p + a) % words ≡ p + a) ⊎ ((p + a) % words + words ≡ p + a)
        → ((p + b) % words ≡ p + b) ⊎ ((p + b) % words + words ≡ p + b) → a ≡ b
    go (inl q) (inl r) = omega arith
    go (inl q) (inr r) = omega arith
    go (inr q) (inl r) = omega arith
    go (inr q) (inr r) = omega arith

module _ (x y : ℕ) where
  -- the first of a block and the second of any
  pub guards_differ : guard_next x ≡ guard_prev y → ⊥
  guards_differ e = omega (arith, guard_next_rest x, guard_prev_rest y)

  -- the same one of two blocks
  pub guard_next_one : x < words / grain → y < words / grain → guard_next x ≡ guard_next y → x ≡ y
  unfolding guard_next
  guard_next_one h k e =
      omega (arith, wrapped_one first_pattern (grain * x) (grain * y) (omega arith) (omega arith) (omega arith) e)

  pub guard_prev_one : x < words / grain → y < words / grain → guard_prev x ≡ guard_prev y → x ≡ y
  unfolding guard_prev
  guard_prev_one h k e =
      omega (arith, wrapped_one second_pattern (grain * x) (grain * y) (omega arith) (omega arith) (omega arith) e)
