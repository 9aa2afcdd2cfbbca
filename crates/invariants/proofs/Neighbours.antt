-- A used block swallows the free blocks beside it, and leaves what it doesn't need: of these steps return, take and
-- resize are made. Each keeps what holds of every heap.
use Rattle.std.specs.Prelude.{ℕ, ◌+◌, ◌-◌, ◌≤◌, ◌≡◌, refl, List, [], ◌∷◌}
use Rattle.std.proofs.Common.{arith, add-zero, zero-add}
use Rattle.choice.specs.Choice.{eq_case}
use Rattle.definition.specs.Blocks.{Block, free, used, last, gap, total, ◌⟨⟩◌, room, past}
use Rattle.definition.specs.Lists.{Lists, skip}
use Rattle.definition.specs.Calls.{leave, join}
use Rattle.invariants.specs.Order.{Side, out, busy, idle, side_l, Fits, Inside, Ordered, OrderedL, order_split}
use Rattle.invariants.proofs.Order.{first_half}
use Rattle.invariants.specs.Moves.{Sane, Ok, occupy, vacate, fuse}
use Rattle.invariants.proofs.Moves.{part, replace}

-- ---- what stands beside

pub total_past : (l : List Block) → total l ≡ total (past l) + room l
total_past [] = refl
total_past (free s ∷ l) = refl
total_past (used s d ∷ l) = omega arith
total_past (last ∷ l) = omega arith
total_past (gap ∷ l) = omega arith

pub order_l_past : (l : List Block) → OrderedL l → OrderedL (past l)
order_l_past [] w = w
order_l_past (free s ∷ l) w = w.2
order_l_past (used s d ∷ l) w = w
order_l_past (last ∷ l) w = w
order_l_past (gap ∷ l) w = w

pub order_past : (r : List Block) → Ordered busy r → Ordered idle (past r)
order_past [] w = w
order_past (free s ∷ l) w = w.2
order_past (used s d ∷ l) w = w
order_past (last ∷ l) w = w
order_past (gap ∷ l) w = absurd w.0

free_fits : (a : Side) (s t : ℕ) → Fits a (free s) → Fits a (free t)
free_fits out s t f = f
free_fits busy s t f = f
free_fits idle s t f = f

pub fits_past : (l : List Block) (t : ℕ) → OrderedL l → Fits (side_l (past l)) (free t)
fits_past [] t w = tt
fits_past (free s ∷ l) t w = free_fits (side_l l) s t w.0
fits_past (used s d ∷ l) t w = tt
fits_past (last ∷ l) t w = tt
fits_past (gap ∷ l) t w = tt

-- ---- swallowing them

-- a place that is good in a part is good in the whole
pub wider : {s d : ℕ} (t : ℕ) → s ≤ t → Inside s d → Inside t d
wider t h i = record { some = i.some; within = omega (arith, i.within); kind = i.kind }

module _ (c : ℕ) (f : Lists) (l r : List Block) (s d : ℕ) (o : Sane c (l ⟨⟩ used s d ∷ r) f) where
  inside : (1 ≤ s) × Inside s d
  inside = (order_split l (used s d ∷ r) o.order).1.1

  pub swallow_behind : Sane c (l ⟨⟩ used (s + room r) d ∷ past r) (skip r (total l + s) f)
  swallow_behind = go r o
    where
      go : (r : List Block) → Sane c (l ⟨⟩ used s d ∷ r) f → Sane c (l ⟨⟩ used (s + room r) d ∷ past r) (skip r (total l + s) f)
      go [] o = rw (add-zero s) o
      go (free t ∷ r) o =
          let p = (order_split (used s d ∷ l) (free t ∷ r) o.order).1.1 in
          fuse c _ l r s d t 1 d (wider (s + t) (omega arith) inside.1) (occupy c f (used s d ∷ l) r t 1 (first_half p) o)
      go (used t e ∷ r) o = rw (add-zero s) o
      go (last ∷ r) o = rw (add-zero s) o
      go (gap ∷ r) o = rw (add-zero s) o

  pub swallow_before : Sane c (past l ⟨⟩ used (room l + s) 1 ∷ r) (skip l (total (past l)) f)
  swallow_before = go l (replace c f l r s d 1 (first_half inside.0) o)
    where
      go : (l : List Block) → Sane c (l ⟨⟩ used s 1 ∷ r) f → Sane c (past l ⟨⟩ used (room l + s) 1 ∷ r) (skip l (total (past l)) f)
      go [] o = rw (zero-add s) o
      go (free t ∷ l) o =
          let p = (order_split l (free t ∷ used s 1 ∷ r) o.order).1.1 in
          fuse c _ l r t 1 s 1 1 (first_half (omega (arith, inside.0))) (occupy c f l (used s 1 ∷ r) t 1 (first_half p) o)
      go (used t e ∷ l) o = rw (zero-add s) o
      go (last ∷ l) o = rw (zero-add s) o
      go (gap ∷ l) o = rw (zero-add s) o

-- both, with the place forgotten
pub swallow : (c : ℕ) (f : Lists) (l r : List Block) (s d : ℕ) → Sane c (l ⟨⟩ used s d ∷ r) f
    → Sane c (past l ⟨⟩ used (room l + (s + room r)) 1 ∷ past r) (skip l (total (past l)) (skip r (total l + s) f))
swallow c f l r s d o = swallow_before c (skip r (total l + s) f) l (past r) (s + room r) d (swallow_behind c f l r s d o)

-- ---- return

pub join_ok : (c : ℕ) (f : Lists) (l r : List Block) (s d : ℕ) → Sane c (l ⟨⟩ used s d ∷ r) f → Ok c (join f l s r)
unfolding join
join_ok c f l r s d o =
    let i = order_split l (used s d ∷ r) o.order in
    vacate c _ (past l) (past r) (room l + (s + room r)) 1 (fits_past l _ i.0) (order_past r i.1.2) (swallow c f l r s d o)

-- ---- leaving what is not needed

pub leave_ok : (c : ℕ) (f : Lists) (l r : List Block) (t e m d : ℕ) → 1 ≤ m → m ≤ t → Inside m d → Ordered idle r → Sane c (l ⟨⟩ used t e ∷ r) f → Ok c (leave f l r t m d)
unfolding leave
leave_ok c f l r t e m d p q i fr o = eq_case (Ok c) m t _ _
    (λ g. replace c f l r t e d (wider t q i) o)
    (λ n. let g : m + (t - m) ≡ t = omega arith in
    vacate c f (used m d ∷ l) r (t - m) 1 tt fr
    (part c f l r m d (t - m) 1 e p (omega (arith, n)) i (first_half (omega (arith, n))) (rw g o)))
