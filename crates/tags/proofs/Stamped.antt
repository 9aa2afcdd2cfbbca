-- The writes of tags make the changes: after them the tags are those of the blocks after the call. `-stamped` says what
-- they make of any tags, `-tagged` what they make of the tags of blocks.
use Rattle.std.specs.Prelude.{ℕ, ◌+◌, ◌-◌, ◌/◌, ◌≤◌, ◌<◌, ◌≡◌, refl, List, ◌∷◌, ◌++◌}
use Rattle.std.proofs.Common.{arith, ap, sym, ◌∙◌, ⊎_elim}
use Rattle.choice.specs.Choice.{if_eq, if_le, eq_yes, eq_no, le_yes, le_no, same?, le?}
use Rattle.definition.specs.Blocks.{Block, free, used, last, total, ◌⟨⟩◌, room, past, gaps}
use Rattle.definition.specs.Lists.{Lists}
use Rattle.definition.specs.Calls.{leave}
use Rattle.invariants.specs.Order.{out, Inside, Ordered}
use Rattle.script.specs.Memory.{Memory, Write, ◌at◌≔◌, apply, put}
use Rattle.script.proofs.Memory.{apply_append}
use Rattle.tags.specs.Tag.{Tag, Tagged}
use Rattle.tags.specs.Writes.{lay_pad_tags, clear_pad_tags, lay_free_tags, split_tags, clear_after_tags, clear_before_tags, clear_room_tags, allocate_tags, deallocate_tags, stretch_tags, down_tags, piece_tags}
use Rattle.tags.specs.Stamps.{lay_pad, lay_free, clear_pad, split_stamp, clear_after, clear_before, clear_used, allocate_stamp, deallocate_stamp, stretch_stamp, down_stamp, piece_stamp}
use Rattle.tags.proofs.Changes.{allocate_stamp_lem, deallocate_stamp_lem, stretch_stamp_lem, down_stamp_lem}
use Rattle.tags.proofs.Piece.{piece_stamp_lem}

-- a function of a choice is the choice of its values
eq_out : {A B : Type 0} (f : A → B) (a b : ℕ) (x y : A) → f (if_eq a b x y) ≡ if_eq a b (f x) (f y)
eq_out f a b x y = ⊎_elim (λ (e : a ≡ b). ap f (eq_yes a b x y e) ∙ sym (eq_yes a b _ _ e)) (λ (n : a ≡ b → ⊥). ap f (eq_no a b x y n) ∙ sym (eq_no a b _ _ n)) (same? a b)

le_out : {A B : Type 0} (f : A → B) (a b : ℕ) (x y : A) → f (if_le a b x y) ≡ if_le a b (f x) (f y)
le_out f a b x y = ⊎_elim (λ (e : a ≤ b). ap f (le_yes a b x y e) ∙ sym (le_yes a b _ _ e))
    (λ (n : b < a). ap f (le_no a b x y (λ q. omega arith)) ∙ sym (le_no a b _ _ (λ q. omega arith))) (le? a b)

-- ---- on any memory

module _ (m : Memory) where
  then_tags : (v w : List Write) → apply m (v ++ w) Tag ≡ apply (apply m v) w Tag
  then_tags v w = ap (λ (u : Memory). u Tag) (apply_append m v w)

  lay_pad_stamped : (x d : ℕ) → apply m (lay_pad_tags x d) Tag ≡ lay_pad (m Tag) x d
  lay_pad_stamped x d = le_out (λ (w : List Write). apply m w Tag) 2 (d / 2) _ _

  clear_pad_stamped : (x d : ℕ) → apply m (clear_pad_tags x d) Tag ≡ clear_pad (m Tag) x d
  clear_pad_stamped x d = le_out (λ (w : List Write). apply m w Tag) 2 (d / 2) _ _

  split_stamped : (x s k d : ℕ) → apply m (split_tags x s k d) Tag ≡ split_stamp (m Tag) x s k d
  split_stamped x s k d = eq_out (λ (w : List Write). apply m w Tag) k s _ _

  after_stamped : (y b : ℕ) → apply m (clear_after_tags y b) Tag ≡ clear_after (m Tag) y b
  after_stamped y b = eq_out (λ (w : List Write). apply m w Tag) b 0 _ _

  before_stamped : (x a : ℕ) → apply m (clear_before_tags x a) Tag ≡ clear_before (m Tag) x a
  before_stamped x a = eq_out (λ (w : List Write). apply m w Tag) a 0 _ _

-- a used block goes, with the free room beside it
clear_stamped : (m : Memory) (x s d a b : ℕ) (l : List Write)
    → (n : Memory) × (apply m (clear_pad_tags x d ++ (clear_after_tags (x + s) b ++ (clear_before_tags x a ++ l))) Tag ≡ apply n l Tag) × (n Tag ≡ clear_used (m Tag) x s d a b)
clear_stamped m x s d a b l =
    let w1 = clear_pad_tags x d in
    let w2 = clear_after_tags (x + s) b in
    let w3 = clear_before_tags x a in
    let u1 = apply m w1 in
    let u2 = apply u1 w2 in (
      apply u2 w3,
      then_tags m w1 (w2 ++ (w3 ++ l)) ∙ then_tags u1 w2 (w3 ++ l) ∙ then_tags u2 w3 l,
      before_stamped u2 x a ∙ ap (λ (t : ℕ → ℕ). clear_before t x a) (after_stamped u1 (x + s) b ∙ ap (λ (t : ℕ → ℕ). clear_after t (x + s) b) (clear_pad_stamped m x d)),
    )

pub allocate_stamped : (m : Memory) (x s k d : ℕ) → apply m (allocate_tags x s k d) Tag ≡ allocate_stamp (m Tag) x s k d
allocate_stamped m x s k d =
    let u = put m (Tag at x + s - 1 ≔ 0) in
    then_tags u (lay_pad_tags x d) (split_tags x s k d)
    ∙ split_stamped (apply u (lay_pad_tags x d)) x s k d
    ∙ ap (λ (t : ℕ → ℕ). split_stamp t x s k d) (lay_pad_stamped u x d)

pub deallocate_stamped : (m : Memory) (x s d a b : ℕ) → apply m (deallocate_tags x s d a b) Tag ≡ deallocate_stamp (m Tag) x s d a b
deallocate_stamped m x s d a b =
    let c = clear_stamped m x s d a b (lay_free_tags (x - a) (a + (s + b))) in
    c.1 ∙ ap (λ (t : ℕ → ℕ). lay_free t (x - a) (a + (s + b))) c.2

pub stretch_stamped : (m : Memory) (x s d b k : ℕ) → apply m (stretch_tags x s d b k) Tag ≡ stretch_stamp (m Tag) x s d b k
stretch_stamped m x s d b k =
    let w = clear_room_tags (x + s) b in
    then_tags m w (split_tags x (s + b) k d) ∙ split_stamped (apply m w) x (s + b) k d
    ∙ ap (λ (t : ℕ → ℕ). split_stamp t x (s + b) k d) (eq_out (λ (w : List Write). apply m w Tag) b 0 _ _)

pub down_stamped : (m : Memory) (x s e a b k d : ℕ) → apply m (down_tags x s e a b k d) Tag ≡ down_stamp (m Tag) x s e a b k d
down_stamped m x s e a b k d =
    let c = clear_stamped m x s e a b (allocate_tags (x - a) (a + (s + b)) k d) in
    c.1 ∙ allocate_stamped c.0 (x - a) (a + (s + b)) k d ∙ ap (λ (t : ℕ → ℕ). allocate_stamp t (x - a) (a + (s + b)) k d) c.2

pub piece_stamped : (m : Memory) (x k : ℕ) → apply m (piece_tags x k) Tag ≡ piece_stamp (m Tag) x k
piece_stamped m x k = refl

-- ---- on a memory whose tags are those of blocks

pub allocate_tagged : (m : Memory) (g : Lists) (l r : List Block) (s k d : ℕ) → 1 ≤ k → k ≤ s → Inside k d → Tagged (m Tag) 0 (l ⟨⟩ free s ∷ r)
    → Tagged (apply m (allocate_tags (total l) s k d) Tag) 0 (leave g l r s k d).blocks
allocate_tagged m g l r s k d p q i h = rw (allocate_stamped m (total l) s k d) (allocate_stamp_lem (m Tag) g l r s k d p q i h)

pub deallocate_tagged : (m : Memory) (l r : List Block) (s d : ℕ) → Ordered out (l ⟨⟩ used s d ∷ r) → Tagged (m Tag) 0 (l ⟨⟩ used s d ∷ r)
    → Tagged (apply m (deallocate_tags (total l) s d (room l) (room r)) Tag) 0 (past l ⟨⟩ free (room l + (s + room r)) ∷ past r)
deallocate_tagged m l r s d o h = rw (deallocate_stamped m (total l) s d (room l) (room r)) (deallocate_stamp_lem (m Tag) l r s d o h)

pub stretch_tagged : (m : Memory) (g : Lists) (l r : List Block) (s d k : ℕ) → Ordered out (l ⟨⟩ used s d ∷ r) → 1 ≤ k → k ≤ s + room r → Inside k d → Tagged (m Tag) 0 (l ⟨⟩ used s d ∷ r)
    → Tagged (apply m (stretch_tags (total l) s d (room r) k) Tag) 0 (leave g l (past r) (s + room r) k d).blocks
stretch_tagged m g l r s d k o p q i h = rw (stretch_stamped m (total l) s d (room r) k) (stretch_stamp_lem (m Tag) g l r s d k o p q i h)

pub down_tagged : (m : Memory) (g : Lists) (l r : List Block) (s e k d : ℕ) → Ordered out (l ⟨⟩ used s e ∷ r) → 1 ≤ k → k ≤ room l + (s + room r) → Inside k d → Tagged (m Tag) 0 (l ⟨⟩ used s e ∷ r)
    → Tagged (apply m (down_tags (total l) s e (room l) (room r) k d) Tag) 0 (leave g (past l) (past r) (room l + (s + room r)) k d).blocks
down_tagged m g l r s e k d o p q i h = rw (down_stamped m (total l) s e (room l) (room r) k d) (down_stamp_lem (m Tag) g l r s e k d o p q i h)

pub piece_tagged : (m : Memory) (l r : List Block) (k : ℕ) → 2 ≤ k → Tagged (m Tag) 0 (l ⟨⟩ gaps k r)
    → Tagged (apply m (piece_tags (total l) k) Tag) 0 (l ⟨⟩ free (k - 1) ∷ last ∷ r)
piece_tagged m l r k p h = rw (piece_stamped m (total l) k) (piece_stamp_lem (m Tag) l r k p h)
