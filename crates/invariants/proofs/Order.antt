-- What follows from specs/Order.antt.
use Rattle.std.specs.Prelude.{ℕ, ◌+◌, ◌*◌, ◌≤◌, ◌<◌, ◌≡◌, refl, List, [], ◌∷◌}
use Rattle.std.proofs.Common.{arith, ap, sym, ◌∙◌, subst, inl, inr}
use Rattle.choice.specs.Choice.{eq_yes, eq_no}
use Rattle.definition.specs.Blocks.{Block, free, used, last, gap, size, total, ◌⟨⟩◌, find, offset, payload}
use Rattle.invariants.specs.Order.{Side, out, idle, side, Fits, Inside, Whole, Ordered, OrderedL, some, order_split, BlockAt, at_low, Apart, same, before, behind, Unlike}

pub first_half : {s : ℕ} → 1 ≤ s → Inside s 1
first_half h = record { some = omega arith; within = omega arith; kind = inl refl }

-- ---- a list and its two parts

pub total_zip : (l r : List Block) → total (l ⟨⟩ r) ≡ total l + total r
total_zip [] r = omega arith
total_zip (b ∷ l) r = omega (arith, total_zip l (b ∷ r))

-- ---- no two free blocks are neighbours

pub no_free_neighbours : (l r : List Block) (s t : ℕ) → Ordered out (l ⟨⟩ free s ∷ free t ∷ r) → ⊥
no_free_neighbours l r s t o = (order_split l (free s ∷ free t ∷ r) o).1.2.0

-- ---- where blocks stand: block c at y, in a list that begins at x; and among the blocks before

-- and ends inside
pub at_end_lem : (y : ℕ) (c : Block) (x : ℕ) (r : List Block) → BlockAt y c x r → y + size c ≤ x + total r
at_end_lem y c x [] x3 = elim x3 [ ]
at_end_lem y c x (b ∷ r) (inl h) = omega (arith, h.0, ap size h.1)
at_end_lem y c x (b ∷ r) (inr h) = omega (arith, at_end_lem y c (x + size b) r h)

pub at_whole : (y : ℕ) (c : Block) (x : ℕ) (a : Side) (r : List Block) → Ordered a r → BlockAt y c x r → Whole c
at_whole y c x a [] w x4 = elim x4 [ ]
at_whole y c x a (b ∷ r) w (inl h) = subst Whole h.1 w.1
at_whole y c x a (b ∷ r) w (inr h) = at_whole y c (x + size b) (side b) r w.2 h

-- ---- two blocks are one, or one lies behind the other

pub apart : (x y p : ℕ) (b c : Block) (xs : List Block) → BlockAt x b p xs → BlockAt y c p xs → Apart x b y c
apart x y p b c [] x3 _ = elim x3 [ ]
apart x y p b c (d ∷ r) (inl h) (inl k) = same (h.0 ∙ sym k.0) (sym h.1 ∙ k.1)
apart x y p b c (d ∷ r) (inl h) (inr k) = before (omega (arith, h.0, ap size h.1, at_low y c (p + size d) r k))
apart x y p b c (d ∷ r) (inr h) (inl k) = behind (omega (arith, k.0, ap size k.1, at_low x b (p + size d) r h))
apart x y p b c (d ∷ r) (inr h) (inr k) = apart x y (p + size d) b c r h k

-- one block at one place
pub one_block : (y : ℕ) (b d : Block) (xs : List Block) → Ordered out xs → BlockAt y b 0 xs → BlockAt y d 0 xs → b ≡ d
one_block y b d xs o h k = go (apart y y 0 b d xs h k)
  where
    go : Apart y b y d → b ≡ d
    go (same e q) = q
    go (before e) = absurd (omega (arith, some b (at_whole y b 0 out xs o h)))
    go (behind e) = absurd (omega (arith, some d (at_whole y d 0 out xs o k)))

-- ---- going there

find_on : (key : ℕ → Block → ℕ) (v : ℕ) (l r : List Block) → Unlike key v l → find key v [] (l ⟨⟩ r) ≡ find key v l r
unfolding find
find_on key v [] r u = refl
find_on key v (b ∷ l) r u = find_on key v l (b ∷ r) u.1 ∙ eq_no (key (total l) b) v _ _ u.0

pub find_at : (key : ℕ → Block → ℕ) (v : ℕ) (l r : List Block) (b : Block) → Unlike key v l → key (total l) b ≡ v
    → find key v [] (l ⟨⟩ b ∷ r) ≡ record { before = l; behind = b ∷ r }
unfolding find
find_at key v l r b u e = find_on key v l (b ∷ r) u ∙ eq_yes (key (total l) b) v _ _ e

unlike_offset : (v : ℕ) (l : List Block) → OrderedL l → total l ≤ v → Unlike offset v l
unlike_offset v [] w h = tt
unlike_offset v (b ∷ l) w h = let p = some b w.1 in (omega arith, unlike_offset v l w.2 (omega arith))

pub offset_at : (l r : List Block) (b : Block) → OrderedL l → find offset (total l) [] (l ⟨⟩ b ∷ r) ≡ record { before = l; behind = b ∷ r }
offset_at l r b w = find_at offset (total l) l r b (unlike_offset (total l) l w (omega arith)) refl

-- a payload of a block before lies before, or where the block ends
payload_low : (x : ℕ) (b : Block) → Whole b → payload x b ≤ 2 * (x + size b)
payload_low x (free s) w = omega arith
payload_low x (used s d) w = omega (arith, w.1.within)
payload_low x last w = omega arith
payload_low x gap w = omega arith

unlike_payload : (v : ℕ) (l : List Block) → OrderedL l → 2 * total l < v → Unlike payload v l
unlike_payload v [] w h = tt
unlike_payload v (b ∷ l) w h = let p = payload_low (total l) b w.1 in (omega arith, unlike_payload v l w.2 (omega arith))

pub payload_at : (l r : List Block) (s d : ℕ) → OrderedL l → 1 ≤ d
    → find payload (2 * total l + d) [] (l ⟨⟩ used s d ∷ r) ≡ record { before = l; behind = used s d ∷ r }
payload_at l r s d w h = find_at payload (2 * total l + d) l r (used s d) (unlike_payload (2 * total l + d) l w (omega arith)) refl
