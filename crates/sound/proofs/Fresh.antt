-- A new memory stands for a heap to which nothing was given: all its grains are gaps, and all its lists are empty.
use Rattle.std.specs.Prelude.{ℕ, zero, suc, ◌+◌, ◌≤◌, ◌<◌, ◌≡◌, refl, []}
use Rattle.std.proofs.Common.{arith, inl, inr, ⊎_elim}
use Rattle.choice.specs.Choice.{same?}
use Rattle.definition.specs.Blocks.{Block, free, used, gap, total, gaps}
use Rattle.definition.specs.Calls.{empty}
use Rattle.invariants.specs.Order.{out, Ordered, BlockAt}
use Rattle.invariants.specs.Pieces.{Listed, pieces}
use Rattle.invariants.specs.Moves.{Ok}
use Rattle.invariants.proofs.Moves.{free_gap}
use Rattle.script.specs.Memory.{Memory, Next, Mark, Live, Table, none, root}
use Rattle.sound.specs.Row.{Row}
use Rattle.sound.specs.Sound.{Sound}

-- ---- a list of gaps

-- it holds nothing else
only_gaps : (n y x : ℕ) (b : Block) → BlockAt y b x (gaps n []) → gap ≡ b
only_gaps zero y x b x3 = elim x3 [ ]
only_gaps (suc n) y x b (inl h) = h.1
only_gaps (suc n) y x b (inr h) = only_gaps n y (x + 1) b h

-- and one at each grain
each_gap : (n y x : ℕ) → x ≤ y → y < x + n → BlockAt y gap x (gaps n [])
each_gap zero y x a b = absurd (omega arith)
each_gap (suc n) y x a b = ⊎_elim
    (λ (e : y ≡ x). inl (e, refl))
    (λ (e : y ≡ x → ⊥). inr (each_gap n y (x + 1) (omega (arith, e)) (omega arith)))
    (same? y x)

-- it is as long as it has gaps
total_gaps : (n : ℕ) → total (gaps n []) ≡ n
total_gaps zero = refl
total_gaps (suc n) = omega (arith, total_gaps n)

-- no block of it stands where it may not
order_gaps : (n : ℕ) → Ordered out (gaps n [])
order_gaps zero = tt
order_gaps (suc n) = (tt, tt, order_gaps n)

-- it has no piece
listed_gaps : (c n : ℕ) → Listed c (pieces 0 (gaps n []))
listed_gaps c zero = tt
listed_gaps c (suc n) = listed_gaps c n

-- no header is read in it
row_gaps : (sz up : ℕ → ℕ) (x p n : ℕ) → Row sz up x p (gaps n [])
row_gaps sz up x p zero = tt
row_gaps sz up x p (suc n) = (tt, row_gaps sz up (x + 1) none n)

-- no block is used
no_used : (n x s d : ℕ) → BlockAt x (used s d) 0 (gaps n []) → ⊥
no_used n x s d h = let e = only_gaps n x 0 (used s d) h in let z : ◌≡◌ {A = ℕ} 0 1 = cc in omega arith

-- ---- the new heap

-- what holds of every heap holds of it
pub empty_ok : (c n : ℕ) → Ok c (empty n)
unfolding empty
empty_ok c n = record {
  order = order_gaps n;
  exact = record {
    apiece = record { once = λ k. tt; one = λ j k y i. absurd i };
    there = λ k y i. absurd i;
    listed = λ y s h. free_gap (only_gaps n y 0 (free s) h);
  };
  short = listed_gaps c n;
}

-- heads that lead nowhere, no mark, no live bit and no region in the table are enough
pub fresh : (n c : ℕ) (m : Memory) → n ≤ none → ((k : ℕ) → m Next (root k) ≡ none) → ((k : ℕ) → m Mark k ≡ 0) → ((q : ℕ) → m Live q ≡ 0) → m Table 0 ≡ 0
    → Sound n c m (empty n)
unfolding empty
fresh n c m small roots marks live table = record {
  heap = empty_ok c n;
  whole = total_gaps n;
  small = small;
  row = row_gaps _ _ 0 none n;
  strung = record { links = roots; marks = marks };
  lively = record { set = λ x s d h. absurd (no_used n x s d h); real = λ q h. absurd (omega (arith, live q)) };
  padded = λ x s d h. absurd (no_used n x s d h);
  given = record {
    sane = λ i h. absurd (omega arith);
    either = λ y h. inl (each_gap n y 0 (omega arith) (omega (arith, total_gaps n)));
    never = λ y h t. omega (arith, t.1);
  };
}
