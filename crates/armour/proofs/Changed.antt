-- What follows from specs/Changed.antt.
use Rattle.std.specs.Prelude.{ℕ, ◌+◌, ◌-◌, ◌*◌, ◌≤◌, ◌<◌, ◌≡◌, List, [], ◌∷◌}
use Rattle.std.proofs.Common.{arith, ap, sym, ◌∙◌, subst, inl, inr, ⊎_elim}
use Rattle.choice.specs.Choice.{eq_yes, eq_no, eq_case, same?}
use Rattle.class.specs.Class.{list_of}
use Rattle.class.proofs.Class.{list_mono}
use Rattle.definition.specs.Blocks.{Block, free, used, gap, total, ◌⟨⟩◌}
use Rattle.definition.specs.Lists.{Lists}
use Rattle.definition.specs.Calls.{Heap, leave}
use Rattle.invariants.specs.Order.{out, idle, Inside, Ordered, BlockAt, at_here}
use Rattle.invariants.specs.Pieces.{pieces, Listed}
use Rattle.invariants.specs.Moves.{Sane}
use Rattle.invariants.proofs.Neighbours.{leave_ok}
use Rattle.script.specs.Memory.{Memory, Table, Write, apply}
use Rattle.script.proofs.Memory.{apply_untouched}
use Rattle.sound.specs.Swaps.{Swaps}
use Rattle.sound.proofs.Swaps.{given_same}
use Rattle.sound.proofs.Settle.{leave_total}
use Rattle.tags.specs.Tag.{Tag, Tagged}
use Rattle.tags.specs.Each.{Each}
use Rattle.tags.proofs.Each.{each_weaker, each_untouched}
use Rattle.tags.specs.Within.{ToTag}
use Rattle.chains.specs.Steps.{enter}
use Rattle.chains.specs.Closed.{Headed, Ready}
use Rattle.plans.specs.Allocate.{rest_steps}
use Rattle.plans.specs.Deallocate.{leave_steps}
use Rattle.armour.specs.Row.{Row, Free, Either}
use Rattle.armour.specs.Turns.{link_bounds, Record}
use Rattle.armour.specs.Known.{Beside}
use Rattle.armour.specs.Changed.{Left}

-- writes of tags are records, and leave the table of regions alone
pub tags_records : (w : List Write) → Each ToTag w → Each Record w
tags_records = each_weaker ToTag Record (λ w e. inl e)

pub tags_table : (m : Memory) (w : List Write) → Each ToTag w → apply m w Table ≡ m Table
tags_table m w h = apply_untouched m w Table (each_untouched Tag Table w (omega arith) h)

-- `old` goes and `new` comes, and neither is a gap
pub row_changed : (n c : ℕ) (m : Memory) (xs ys : List Block) (w : List Write) (x : ℕ) (old : Block) (z : ℕ) (new : Block) → Row n c m xs → Each ToTag w → Swaps xs ys x old z new
    → (old ≡ gap → ⊥) → (new ≡ gap → ⊥) → Ordered out ys → Listed c (pieces 0 ys) → total ys ≡ n → Tagged (apply m w Tag) 0 ys → Row n c (apply m w) ys
row_changed n c m xs ys w x old z new o f v a b order short whole tags = record {
  order = order;
  short = short;
  whole = whole;
  tags = tags;
  given = given_same m (apply m w) xs ys o.given (tags_table m w f) (whole ∙ sym o.whole)
      (λ y h. ⊎_elim (λ (q : (y ≡ x) × (old ≡ gap)). absurd (a q.1)) (λ (q : BlockAt y gap 0 ys). q) (v.forth y gap tt h))
      (λ y h. ⊎_elim (λ (q : (y ≡ z) × (new ≡ gap)). absurd (b q.1)) (λ (q : BlockAt y gap 0 xs). q) (v.back y gap tt h));
}

-- ---- k of t grains become used, and the rest, if any, free: the blocks do not depend on the lists

pub leave_all : (g : Lists) (l r : List Block) (t k d : ℕ) → k ≡ t → (leave g l r t k d).blocks ≡ l ⟨⟩ used t d ∷ r
unfolding leave
leave_all g l r t k d e = ap (λ (h : Heap). h.blocks) (eq_yes k t _ _ e)

pub leave_some : (g : Lists) (l r : List Block) (t k d : ℕ) → (k ≡ t → ⊥) → (leave g l r t k d).blocks ≡ l ⟨⟩ used k d ∷ free (t - k) ∷ r
unfolding leave
leave_some g l r t k d n = ap (λ (h : Heap). h.blocks) (eq_no k t _ _ n)

leave_blocks : (f g : Lists) (l r : List Block) (t k d : ℕ) → (leave f l r t k d).blocks ≡ (leave g l r t k d).blocks
leave_blocks f g l r t k d = ⊎_elim
    (λ (e : k ≡ t). leave_all f l r t k d e ∙ sym (leave_all g l r t k d e))
    (λ (n : k ≡ t → ⊥). leave_some f l r t k d n ∙ sym (leave_some g l r t k d n))
    (same? k t)

-- the rest is free
pub rest_free : (g : Lists) (l r : List Block) (t k d : ℕ) → (k ≡ t → ⊥) → BlockAt (total l + k) (free (t - k)) 0 (leave g l r t k d).blocks
rest_free g l r t k d n = subst (λ (ys : List Block). BlockAt (total l + k) (free (t - k)) 0 ys) (sym (leave_some g l r t k d n)) (at_here (used k d ∷ l) r (free (t - k)))

pub leave_left : (n c : ℕ) (f g : Lists) (l r : List Block) (t e k d : ℕ) → Sane c (l ⟨⟩ used t e ∷ r) f → Ordered idle r → total l + t + total r ≡ n → 1 ≤ k → k ≤ t → Inside k d
    → Left n c (leave g l r t k d).blocks
leave_left n c f g l r t e k d o i w p q j =
    let b = leave_blocks f g l r t k d in
    let h = leave_ok c f l r t e k d p q j i o in
    record { order = subst (Ordered out) b h.order; short = subst (λ (ys : List Block). Listed c (pieces 0 ys)) b h.short; whole = leave_total g l r t k d q ∙ w }

-- ---- steps

module _ (c : ℕ) (m : Memory) (xs ys : List Block) where
  pub either_headed : (k : ℕ) → Headed (Free xs) m k → Headed (Either xs ys) m k
  either_headed k (inl e) = inl e
  either_headed k (inr h) = inr (inl h)

  -- what is left of t grains at x enters its list
  pub rest_ready : (x t k : ℕ) → k ≤ t → list_of t < 16 * c → ((k ≡ t → ⊥) → Headed (Free xs) m (list_of (t - k))) → ((k ≡ t → ⊥) → Free ys (x + k)) → Ready (link_bounds c xs ys) m (rest_steps x t k)
  rest_ready x t k le small h f = eq_case (Ready (link_bounds c xs ys) m) k t _ _
      (λ _. tt)
      (λ n. ((omega (arith, list_mono (t - k) t (omega (arith, n)) (omega arith)), inr (f n), either_headed (list_of (t - k)) (h n)), tt))

  -- a free neighbour leaves its list
  pub leave_ready : (y t : ℕ) → Beside c m xs y t → Ready (link_bounds c xs ys) m (leave_steps t y)
  leave_ready y t b = eq_case (Ready (link_bounds c xs ys) m) t 0 _ _ (λ _. tt) (λ n. ((b.list n, inl (b.next n), inl (b.prev n)), tt))

  -- t grains at y, which are free afterwards, enter their list
  pub join_ready : (y t : ℕ) → list_of t < 16 * c → Free ys y → Headed (Free xs) m (list_of t) → Ready (link_bounds c xs ys) m (enter (list_of t) y ∷ [])
  join_ready y t small f h = ((small, inr f, either_headed (list_of t) h), tt)
