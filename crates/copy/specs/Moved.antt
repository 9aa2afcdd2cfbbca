-- Bytes moved inside one list (`moved`): source and target may overlap, and what arrives is the source as it was.
use Rattle.std.specs.Prelude.{ℕ, ◌+◌, ◌≤◌, ◌<◌, ◌≡◌, refl, List, ◌⊎◌, length, get_or}
use Rattle.std.proofs.Common.{arith, subst, inl, inr, ⊎_elim}
use Rattle.word.specs.Number.{Apart}
use Rattle.copy.specs.Copied.{copied, Copied, copied_is, copied_only, copied_same, copied_then, copied_before}

-- b is a with its n bytes from `from` on at `to`
abbrev pub Moved : List ℕ → ℕ → ℕ → ℕ → List ℕ → Type 0
Moved a from to n b = Copied a from a to n b

-- that list
unfoldable pub moved : List ℕ → ℕ → ℕ → ℕ → List ℕ
moved a from to n = copied a from a to n

module _ (a : List ℕ) (from to n : ℕ) where
  pub moved_is : Moved a from to n (moved a from to n)
  unfolding moved
  moved_is = copied_is a from a to n

  -- every byte arrives as it was
  pub moved_arrived : (i : ℕ) → i < n → to + i < length a → get_or (moved a from to n) (to + i) 0 ≡ get_or a (from + i) 0
  moved_arrived = moved_is.arrived

  -- every byte outside the target stays
  pub moved_kept : (j : ℕ) → Apart to n j 1 → get_or (moved a from to n) j 0 ≡ get_or a j 0
  moved_kept = moved_is.kept

  -- the length stays
  pub moved_length : length (moved a from to n) ≡ length a
  moved_length = moved_is.size

  -- a list with these three laws is that list
  pub moved_only : (b : List ℕ) → Moved a from to n b → b ≡ moved a from to n
  unfolding moved
  moved_only b r = copied_only a from a to n b r

-- no bytes, or all of them to where they are: nothing changes
pub moved_none : (a : List ℕ) (from to n : ℕ) → n ≡ 0 → Moved a from to n a
moved_none a from to n e = record { arrived = λ i h f. absurd (omega arith); kept = λ j h. refl; size = refl }

pub moved_nowhere : (a : List ℕ) (from to n : ℕ) → to ≡ from → Moved a from to n a
moved_nowhere a from to n e = record { arrived = λ i h f. rw e; kept = λ j h. refl; size = refl }

-- ---- a move in two steps: where the second one reads, the first one has not written

-- the first of n bytes may go first: downwards, or to where none of them is read
abbrev pub Ascends : ℕ → ℕ → ℕ → Type 0
Ascends from to n = (to ≤ from) ⊎ (from + n ≤ to)

-- so may those of a part of them
pub ascends_part : (from to n i : ℕ) → i ≤ n → Ascends from to n → Ascends from to i
ascends_part from to n i h = ⊎_elim (λ (e : to ≤ from). inl e) (λ (e : from + n ≤ to). inr (omega arith))

-- the first i of them were written apart from each byte behind them
pub ascends_apart : (from to n i j : ℕ) → i ≤ j → j < n → Ascends from to n → Apart to i (from + j) 1
ascends_apart from to n i j h g = ⊎_elim (λ (e : to ≤ from). inl (omega arith)) (λ (e : from + n ≤ to). inr (omega arith))

module _ {a b c : List ℕ} {from to from' to' i k n : ℕ} where
  -- some bytes and then those behind them
  pub then_behind : Ascends from to n → from + i ≡ from' → to + i ≡ to' → i + k ≡ n → Moved a from to i b → Moved b from' to' k c → Moved a from to n c
  then_behind h f t e p q = rw (← e) (copied_then p (rw (f, t) (copied_same still q)))
    where
      still : (j : ℕ) → j < k → get_or b (from' + j) 0 ≡ get_or a (from' + j) 0
      still j g =
          let x : from + (i + j) ≡ from' + j = omega arith in
          p.kept (from' + j) (subst (λ (z : ℕ). Apart to i z 1) x (ascends_apart from to n i (i + j) (omega arith) (omega arith) h))

  -- upwards, some bytes and then those before them
  pub then_before : from ≤ to → from + k ≡ from' → to + k ≡ to' → k + i ≡ n → Moved a from' to' i b → Moved b from to k c → Moved a from to n c
  then_before h f t e p q = rw (← e) (copied_before (rw (f, t) p) (copied_same still q))
    where
      still : (j : ℕ) → j < k → get_or b (from + j) 0 ≡ get_or a (from + j) 0
      still j g = p.kept (from + j) (inr (omega arith))
