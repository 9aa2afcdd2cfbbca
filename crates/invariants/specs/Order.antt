-- Which lists of blocks there are: a piece is a row of blocks with no two free neighbours, and its sentinel behind them.
-- `Ordered` says it of a list from somewhere on, `OrderedL` of the blocks before, nearest first.
use Rattle.std.specs.Prelude.{ℕ, ◌+◌, ◌*◌, ◌%◌, ◌≤◌, ◌<◌, ◌≡◌, refl, List, [], ◌∷◌, ◌⊎◌}
use Rattle.std.proofs.Common.{arith, ap, subst, inl, inr}
use Rattle.definition.specs.Blocks.{Block, free, used, last, gap, size, total, ◌⟨⟩◌}

-- what stands before a block: nothing of its piece, a used block, a free one
pub data Side : Type 0 where
  out busy idle : Side

abbrev pub side : Block → Side
side (free s) = idle
side (used s d) = busy
side last = out
side gap = out

abbrev pub side_l : List Block → Side
side_l [] = out
side_l (b ∷ l) = side b

-- which block may stand there: no free block behind a free one, no sentinel alone, no gap before the sentinel
abbrev pub Fits : Side → Block → Type 0
Fits out (free s) = Unit {0}
Fits busy (free s) = Unit {0}
Fits idle (free s) = ⊥
Fits out (used s d) = Unit {0}
Fits busy (used s d) = Unit {0}
Fits idle (used s d) = Unit {0}
Fits out last = ⊥
Fits busy last = Unit {0}
Fits idle last = Unit {0}
Fits out gap = Unit {0}
Fits busy gap = ⊥
Fits idle gap = ⊥

-- a payload's place in a block of s grains: half a grain behind its start, or at a grain, and not behind its end
pub record Inside (s d : ℕ) : Type 0 where
  pub some : 1 ≤ d
  pub within : d ≤ 2 * s
  pub kind : (d ≡ 1) ⊎ (d % 2 ≡ 0)

-- no block is empty
abbrev pub Whole : Block → Type 0
Whole (free s) = 1 ≤ s
Whole (used s d) = (1 ≤ s) × Inside s d
Whole last = Unit {0}
Whole gap = Unit {0}

abbrev pub Ends : Side → Type 0
Ends out = Unit {0}
Ends busy = ⊥
Ends idle = ⊥

abbrev pub Ordered : Side → List Block → Type 0
Ordered a [] = Ends a
Ordered a (b ∷ r) = Fits a b × Whole b × Ordered (side b) r

abbrev pub OrderedL : List Block → Type 0
OrderedL [] = Unit {0}
OrderedL (b ∷ l) = Fits (side_l l) b × Whole b × OrderedL l

pub some : (b : Block) → Whole b → 1 ≤ size b
some (free s) w = w
some (used s d) w = w.0
some last w = omega arith
some gap w = omega arith

pub used_fits : (a : Side) (s d : ℕ) → Fits a (used s d)
used_fits out s d = tt
used_fits busy s d = tt
used_fits idle s d = tt

-- ---- a list and its two parts

pub order_split : (l r : List Block) → Ordered out (l ⟨⟩ r) → OrderedL l × Ordered (side_l l) r
order_split [] r h = (tt, h)
order_split (b ∷ l) r h = let i = order_split l (b ∷ r) h in ((i.1.0, i.1.1, i.0), i.1.2)

pub order_join : (l r : List Block) → OrderedL l → Ordered (side_l l) r → Ordered out (l ⟨⟩ r)
order_join [] r h k = k
order_join (b ∷ l) r h k = order_join l (b ∷ r) h.2 (h.0, h.1, k)

-- ---- where blocks stand: block c at y, in a list that begins at x; and among the blocks before

abbrev pub BlockAt : ℕ → Block → ℕ → List Block → Type 0
BlockAt y c x [] = ⊥
BlockAt y c x (b ∷ r) = ((y ≡ x) × (b ≡ c)) ⊎ BlockAt y c (x + size b) r

abbrev pub LeftAt : ℕ → Block → List Block → Type 0
LeftAt y c [] = ⊥
LeftAt y c (b ∷ l) = ((y ≡ total l) × (b ≡ c)) ⊎ LeftAt y c l

pub at_split : (y : ℕ) (c : Block) (l r : List Block) → BlockAt y c 0 (l ⟨⟩ r) → LeftAt y c l ⊎ BlockAt y c (total l) r
at_split y c [] r h = inr h
at_split y c (b ∷ l) r h = go (at_split y c l (b ∷ r) h)
  where
    go : LeftAt y c l ⊎ BlockAt y c (total l) (b ∷ r) → LeftAt y c (b ∷ l) ⊎ BlockAt y c (total l + size b) r
    go (inl h) = inl (inr h)
    go (inr (inl h)) = inl (inl h)
    go (inr (inr h)) = inr h

pub at_join : (y : ℕ) (c : Block) (l r : List Block) → LeftAt y c l ⊎ BlockAt y c (total l) r → BlockAt y c 0 (l ⟨⟩ r)
at_join y c [] r (inl x'') = elim x'' [ ]
at_join y c [] r (inr h) = h
at_join y c (b ∷ l) r (inl (inl h)) = at_join y c l (b ∷ r) (inr (inl h))
at_join y c (b ∷ l) r (inl (inr h)) = at_join y c l (b ∷ r) (inl h)
at_join y c (b ∷ l) r (inr h) = at_join y c l (b ∷ r) (inr (inr h))

pub at_here : (l r : List Block) (b : Block) → BlockAt (total l) b 0 (l ⟨⟩ b ∷ r)
at_here l r b = at_join (total l) b l (b ∷ r) (inr (inl (refl, refl)))

pub at_low : (y : ℕ) (c : Block) (x : ℕ) (r : List Block) → BlockAt y c x r → x ≤ y
at_low y c x [] x3 = elim x3 [ ]
at_low y c x (b ∷ r) (inl h) = omega (arith, h.0)
at_low y c x (b ∷ r) (inr h) = omega (arith, at_low y c (x + size b) r h)

-- a block before ends before
pub left_high : (y : ℕ) (c : Block) (l : List Block) → LeftAt y c l → y + size c ≤ total l
left_high y c [] x' = elim x' [ ]
left_high y c (b ∷ l) (inl h) = omega (arith, h.0, ap size h.1)
left_high y c (b ∷ l) (inr h) = omega (arith, left_high y c l h)

pub left_whole : (y : ℕ) (c : Block) (l : List Block) → OrderedL l → LeftAt y c l → Whole c
left_whole y c [] w x'' = elim x'' [ ]
left_whole y c (b ∷ l) w (inl h) = subst Whole h.1 w.1
left_whole y c (b ∷ l) w (inr h) = left_whole y c l w.2 h

pub left_lt : (y : ℕ) (c : Block) (l : List Block) → OrderedL l → LeftAt y c l → y < total l
left_lt y c l w h = omega (arith, left_high y c l h, some c (left_whole y c l w h))

-- the two parts at a block
pub record Stands (y : ℕ) (c : Block) (xs : List Block) : Type 0 where
  pub before : List Block
  pub behind : List Block
  pub whole : xs ≡ before ⟨⟩ c ∷ behind
  pub place : y ≡ total before

stands : (y : ℕ) (c : Block) (l r : List Block) → BlockAt y c (total l) r → Stands y c (l ⟨⟩ r)
stands y c l [] x' = elim x' [ ]
stands y c l (b ∷ r) (inl h) = record { before = l; behind = r; whole = ap (λ (e : Block). l ⟨⟩ e ∷ r) h.1; place = h.0 }
stands y c l (b ∷ r) (inr h) = stands y c (b ∷ l) r h

pub stands_at : (y : ℕ) (c : Block) (xs : List Block) → BlockAt y c 0 xs → Stands y c xs
stands_at y c xs h = stands y c [] xs h

-- ---- two blocks are one, or one lies behind the other

pub data Apart (x : ℕ) (b : Block) (y : ℕ) (c : Block) : Type 0 where
  same : x ≡ y → b ≡ c → Apart x b y c
  before : x + size b ≤ y → Apart x b y c
  behind : y + size c ≤ x → Apart x b y c

-- ---- going there

-- no block before has the key
abbrev pub Unlike : (ℕ → Block → ℕ) → ℕ → List Block → Type 0
Unlike key v [] = Unit {0}
Unlike key v (b ∷ l) = (key (total l) b ≡ v → ⊥) × Unlike key v l
