-- What follows from specs/Stays.antt.
use Rattle.std.specs.Prelude.{ℕ, ◌+◌, ◌-◌, ◌≤◌, ◌≡◌, List, [], ◌∷◌}
use Rattle.std.proofs.Common.{arith, add_assoc, add-zero, ap, sym, ◌∙◌, subst}
use Rattle.std.proofs.Math.Path.{refl}
use Rattle.choice.specs.Choice.{eq_case, le_case}
use Rattle.definition.specs.Blocks.{Block, free, used, last, gap, total, ◌⟨⟩◌, room, past, Place, payload}
use Rattle.definition.specs.Lists.{Lists, skip, drop, Found, nothing, found}
use Rattle.definition.specs.Calls.{Heap, Answer, refused, granted, leave, join, place, keeps, take, take_at, give_back_at, give_back, answering, back_after, elsewhere, down, resize_at, resize}
use Rattle.invariants.specs.Order.{Inside, order_split}
use Rattle.invariants.specs.Pieces.{pieces, pieces_behind}
use Rattle.invariants.specs.Moves.{Sane, Ok}
use Rattle.invariants.proofs.Neighbours.{order_past, swallow_behind, swallow, join_ok, leave_ok}
use Rattle.invariants.specs.Placing.{Align}
use Rattle.invariants.proofs.Placing.{align_pos, place_some, place_inside, keeps_some, keeps_holds, keeps_wanted}
use Rattle.invariants.specs.Promises.{Took, sought}
use Rattle.invariants.proofs.Promises.{take_found}
use Rattle.invariants.proofs.NotLive.{find_case}
use Rattle.invariants.specs.Stays.{Keeps}

-- ---- pieces

-- a used block with what is free behind it
pieces_right : (n s d : ℕ) (r : List Block) → pieces (n + (s + room r)) (past r) ≡ pieces n (used s d ∷ r)
pieces_right n s d [] = refl
pieces_right n s d (free t ∷ r) = ap (λ (m : ℕ). pieces m r) (sym (add_assoc n s t))
pieces_right n s d (used t e ∷ r) = ap (λ (m : ℕ). pieces (n + m) (used t e ∷ r)) (add-zero s)
pieces_right n s d (last ∷ r) = ap (λ (m : ℕ). pieces (n + m) (last ∷ r)) (add-zero s)
pieces_right n s d (gap ∷ r) = ap (λ (m : ℕ). pieces (n + m) (gap ∷ r)) (add-zero s)

-- and with what is free before it: any block b of all these grains has the same pieces
module _ (b : Block) (t : ℕ) (grain : (n : ℕ) (r : List Block) → pieces n (b ∷ r) ≡ pieces (n + t) r) where
  pieces_both : (l r : List Block) (s d : ℕ) → t ≡ room l + (s + room r) → (n : ℕ) → pieces n (past l ⟨⟩ b ∷ past r) ≡ pieces n (l ⟨⟩ used s d ∷ r)
  pieces_both l r s d e = go l e
    where
      same : (n u : ℕ) → t ≡ u + (s + room r) → pieces n (b ∷ past r) ≡ pieces (n + u) (used s d ∷ r)
      same n u q = grain n (past r) ∙ ap (λ (m : ℕ). pieces m (past r)) (omega arith) ∙ pieces_right (n + u) s d r

      here : (n : ℕ) → t ≡ 0 + (s + room r) → pieces n (b ∷ past r) ≡ pieces n (used s d ∷ r)
      here n q = same n 0 q ∙ ap (λ (m : ℕ). pieces m (used s d ∷ r)) (add-zero n)

      go : (l : List Block) → t ≡ room l + (s + room r) → (n : ℕ) → pieces n (past l ⟨⟩ b ∷ past r) ≡ pieces n (l ⟨⟩ used s d ∷ r)
      go [] q = λ n. here n q
      go (free u ∷ l) q = pieces_behind l (b ∷ past r) (free u ∷ used s d ∷ r) (λ n. same n u q)
      go (used u i ∷ l) q = pieces_behind (used u i ∷ l) (b ∷ past r) (used s d ∷ r) (λ n. here n q)
      go (last ∷ l) q = pieces_behind (last ∷ l) (b ∷ past r) (used s d ∷ r) (λ n. here n q)
      go (gap ∷ l) q = pieces_behind (gap ∷ l) (b ∷ past r) (used s d ∷ r) (λ n. here n q)

-- what is left of t grains has the pieces of one block
leave_pieces : (f : Lists) (l r : List Block) (t m d e : ℕ) → m ≤ t → (n : ℕ) → pieces n (leave f l r t m d).blocks ≡ pieces n (l ⟨⟩ used t e ∷ r)
unfolding leave
leave_pieces f l r t m d e h n = eq_case (λ (g : Heap). pieces n g.blocks ≡ pieces n (l ⟨⟩ used t e ∷ r)) m t _ _
    (λ _. pieces_behind l (used t d ∷ r) (used t e ∷ r) (λ i. refl) n)
    (λ _. pieces_behind l (used m d ∷ free (t - m) ∷ r) (used t e ∷ r) (λ i. ap (λ (j : ℕ). pieces j r) (omega arith)) n)

-- ---- return

module _ (c : ℕ) (f : Lists) (l r : List Block) (s d : ℕ) (o : Sane c (l ⟨⟩ used s d ∷ r) f) where
  join_keeps : Keeps c (record { blocks = l ⟨⟩ used s d ∷ r; lists = f }) (granted 0 (join f l s r))
  unfolding join
  join_keeps = (join_ok c f l r s d o, pieces_both (free (room l + (s + room r))) (room l + (s + room r)) (λ n r. refl) l r s d refl 0)

-- the heap with its blocks taken apart
whole : (h : Heap) {xs : List Block} → h.blocks ≡ xs → h ≡ record { blocks = xs; lists = h.lists }
whole h e = ap (λ (xs : List Block). record { blocks = xs; lists = h.lists }) e

pub give_back_keeps : (c : ℕ) (h : Heap) (q : ℕ) → Ok c h → Keeps c h (give_back h q)
unfolding give_back give_back_at
give_back_keeps c h q o = find_case (λ (p : Place). Keeps c h (give_back_at h.lists p.before p.behind)) payload q [] h.blocks (λ a. tt) (λ a b r e i. at b a r (sym e))
  where
    at : (b : Block) (a r : List Block) → h.blocks ≡ a ⟨⟩ b ∷ r → Keeps c h (give_back_at h.lists a (b ∷ r))
    at (free s) a r e = tt
    at (used s d) a r e = subst (λ (k : Heap). Keeps c k (granted 0 (join h.lists a s r))) (sym (whole h e)) (join_keeps c h.lists a r s d (rw e at o))
    at last a r e = tt
    at gap a r e = tt

-- ---- take

pub take_keeps : (c : ℕ) (h : Heap) (p a : ℕ) → Align a → Ok c h → Keeps c h (take c h p a)
unfolding take take_at
take_keeps c h p a al o = go (sought c h p a) refl
  where
    there : (k y : ℕ) → Took c h p a k y → Keeps c h (take c h p a)
    there k y t = subst (Keeps c h) (sym t.answer) (
      t.ok,
      leave_pieces (drop k y h.lists) t.l t.r t.s (keeps (place a y) p) (place a y) 1 (omega (arith, t.enough, keeps_wanted a y p (align_pos a al))) 0
          ∙ pieces_behind t.l (used t.s 1 ∷ t.r) (free t.s ∷ t.r) (λ n. refl) 0 ∙ ap (pieces 0) (sym t.whole),
    )

    go : (w : Found) → sought c h p a ≡ w → Keeps c h (take c h p a)
    go nothing e = subst (λ (w : Found). Keeps c h (take_at h p a w)) (sym e) tt
    go (found k y) e = there k y (take_found c h p a k y o al e)

-- ---- resize

module _ (c q : ℕ) (h : Heap) where
  answering_keeps : (v : ℕ) (w : Answer) → Keeps c h w → Keeps c h (answering v w)
  unfolding answering
  answering_keeps v (refused w) k = tt
  answering_keeps v (granted z g) k = k

  back_keeps : (w : Answer) → Keeps c h w → Keeps c h (back_after w q)
  unfolding back_after
  back_keeps (refused w) k = tt
  back_keeps (granted v g) k = answering_keeps v (give_back g q) (to_h (give_back g q) (give_back_keeps c g q k.0))
    where
      to_h : (w : Answer) → Keeps c g w → Keeps c h w
      to_h (refused w) i = tt
      to_h (granted z b) i = (i.0, i.1 ∙ k.1)

  elsewhere_keeps : (p a : ℕ) → Align a → Ok c h → Keeps c h (elsewhere c h q p a)
  unfolding elsewhere
  elsewhere_keeps p a al o = back_keeps (take c h p a) (take_keeps c h p a al o)

module _ (c q p a : ℕ) (al : Align a) (f : Lists) (l r : List Block) (s d : ℕ) (o : Sane c (l ⟨⟩ used s d ∷ r) f) where
  down_keeps : Keeps c (record { blocks = l ⟨⟩ used s d ∷ r; lists = f }) (down c (record { blocks = l ⟨⟩ used s d ∷ r; lists = f }) q p a l s r)
  unfolding down
  down_keeps =
      let h : Heap = record { blocks = l ⟨⟩ used s d ∷ r; lists = f } in
      let i = order_split l (used s d ∷ r) o.order in
      let z = total (past l) in
      let t = room l + (s + room r) in
      let k = keeps (place a z) p in
      let g = skip l z (skip r (total l + s) f) in
      let far = elsewhere_keeps c q h p a al o in
      eq_case (Keeps c h) (room l) 0 _ _ (λ _. far) λ _.
      le_case (Keeps c h) k t _ _
      (λ (e : k ≤ t). (
        leave_ok c g (past l) (past r) t 1 k (place a z) (keeps_some (place a z) p (place_some a z (align_pos a al))) e (place_inside a z p al) (order_past r i.1.2) (swallow c f l r s d o),
        leave_pieces g (past l) (past r) t k (place a z) 1 e 0 ∙ pieces_both (used t 1) t (λ n r. refl) l r s d refl 0,
      ))
      (λ _. far)

  resize_used : Keeps c (record { blocks = l ⟨⟩ used s d ∷ r; lists = f }) (resize_at c (record { blocks = l ⟨⟩ used s d ∷ r; lists = f }) q p a l (used s d ∷ r))
  unfolding resize_at
  resize_used =
      let h : Heap = record { blocks = l ⟨⟩ used s d ∷ r; lists = f } in
      let i = order_split l (used s d ∷ r) o.order in
      let w = i.1.1 in
      let k = keeps d p in
      let v : Inside k d = record { some = w.1.some; within = omega (arith, keeps_holds d p); kind = w.1.kind } in
      eq_case (Keeps c h) k s _ _ (λ _. (o, refl)) λ _.
      le_case (Keeps c h) k (s + room r) _ _
      (λ (e : k ≤ s + room r). (
        leave_ok c (skip r (total l + s) f) l (past r) (s + room r) d k d (keeps_some d p w.1.some) e v (order_past r i.1.2) (swallow_behind c f l r s d o),
        leave_pieces (skip r (total l + s) f) l (past r) (s + room r) k d 1 e 0 ∙ pieces_behind l (used (s + room r) 1 ∷ past r) (used s d ∷ r) (λ n. pieces_right n s d r) 0,
      ))
      (λ _. down_keeps)

pub resize_keeps : (c : ℕ) (h : Heap) (q p a : ℕ) → Align a → Ok c h → Keeps c h (resize c h q p a)
unfolding resize resize_at
resize_keeps c h q p a al o = find_case (λ (b : Place). Keeps c h (resize_at c h q p a b.before b.behind)) payload q [] h.blocks (λ l. tt) (λ l b r e i. at b l r (sym e))
  where
    at : (b : Block) (l r : List Block) → h.blocks ≡ l ⟨⟩ b ∷ r → Keeps c h (resize_at c h q p a l (b ∷ r))
    at (free s) l r e = tt
    at (used s d) l r e = subst (λ (k : Heap). Keeps c k (resize_at c k q p a l (used s d ∷ r))) (sym (whole h e)) (resize_used c q p a al h.lists l r s d (rw e at o))
    at last l r e = tt
    at gap l r e = tt
