-- What follows from specs/Resized.antt.
use Rattle.std.specs.Prelude.{ℕ, ◌+◌, ◌*◌, ◌%◌, ◌≤◌, ◌<◌, ◌≡◌, List, ◌∷◌, ◌⊎◌}
use Rattle.std.proofs.Common.{arith, sym, ◌∙◌, inl, inr, ⊎_elim}
use Rattle.std.proofs.Math.Path.{refl, subst}
use Rattle.choice.specs.Choice.{eq_case, le_case, same?}
use Rattle.definition.specs.Blocks.{Block, free, used, size, total, ◌⟨⟩◌, room, past}
use Rattle.definition.specs.Lists.{Lists}
use Rattle.definition.specs.Calls.{Heap, Answer, refused, granted, leave, join, place, keeps, take, answering, back_after, elsewhere, down, resize_at, resize}
use Rattle.invariants.specs.Order.{Inside, Ordered, out, some, order_split, BlockAt, at_here, Stands, stands_at, Apart, same, before, behind}
use Rattle.invariants.proofs.Order.{at_whole, apart, one_block}
use Rattle.invariants.specs.Moves.{Sane, Ok, free_used}
use Rattle.invariants.proofs.Neighbours.{total_past, order_past, swallow_behind, swallow, join_ok, leave_ok}
use Rattle.invariants.specs.Placing.{Align}
use Rattle.invariants.proofs.Placing.{align_pos, place_aligned, place_some, place_inside, keeps_holds, keeps_some}
use Rattle.invariants.specs.Kept.{Solid}
use Rattle.invariants.proofs.Kept.{solid_free, swap, kept_take_back, kept_stretch, kept_stretch_back, kept_join, kept_join_back}
use Rattle.invariants.specs.Promises.{Granted}
use Rattle.invariants.proofs.Promises.{take_granted, leave_here, leave_keeps, leave_only, used_apart}
use Rattle.invariants.proofs.Live.{live_back, live_resize}
use Rattle.invariants.specs.Resized.{Resized}

-- ---- the block is taken out: what is not free in ys is what is not free in xs, but for the block at x

record Without (xs : List Block) (x : ℕ) (ys : List Block) : Type 0 where
  stays : (y : ℕ) (b : Block) → Solid b → BlockAt y b 0 xs → (y ≡ x → ⊥) → BlockAt y b 0 ys
  was : (y : ℕ) (b : Block) → Solid b → BlockAt y b 0 ys → BlockAt y b 0 xs × (y ≡ x → ⊥)

-- what is not free lies before or behind a free block
free_apart : (z t y : ℕ) (b : Block) (xs : List Block) → Solid b → BlockAt z (free t) 0 xs → BlockAt y b 0 xs → (y + size b ≤ z) ⊎ (z + t ≤ y)
free_apart z t y b xs v f g = go (apart z y 0 (free t) b xs f g)
  where
    go : Apart z (free t) y b → (y + size b ≤ z) ⊎ (z + t ≤ y)
    go (same e i) = absurd (solid_free b v i)
    go (before e) = inr e
    go (behind e) = inl e

-- so nothing that is not free begins in it
outside : (x y t e : ℕ) (b : Block) (l r : List Block) → Solid b → Ordered out (l ⟨⟩ used t e ∷ r) → total l ≤ x → x < total l + t
    → BlockAt y b 0 (l ⟨⟩ free t ∷ r) → y ≡ x → ⊥
outside x y t e b l r v o low high g q =
    let w = some b (at_whole y b 0 out (l ⟨⟩ used t e ∷ r) o (kept_take_back y b v l r t e g)) in
    ⊎_elim (λ (i : y + size b ≤ total l). omega (arith, i, w)) (λ (i : total l + t ≤ y). omega (arith, i)) (free_apart (total l) t y b (l ⟨⟩ free t ∷ r) v (at_here l r (free t)) g)

module _ (c : ℕ) (f : Lists) (l r : List Block) (s d : ℕ) (o : Sane c (l ⟨⟩ used s d ∷ r) f) where
  -- the blocks with it
  abbrev xs : List Block
  xs = l ⟨⟩ used s d ∷ r

  grains_some : 1 ≤ s
  grains_some = (order_split l (used s d ∷ r) o.order).1.1.0

  -- with the free block behind it
  not_there : (y : ℕ) (b : Block) → Solid b → BlockAt y b 0 (l ⟨⟩ free (s + room r) ∷ past r) → y ≡ total l → ⊥
  not_there y b v g = outside (total l) y (s + room r) d b l (past r) v (swallow_behind c f l r s d o).order (omega arith) (omega (arith, grains_some)) g

  without_behind : Without xs (total l) (l ⟨⟩ free (s + room r) ∷ past r)
  without_behind =
      let t = s + room r in
      record {
        stays = λ y b v g n. ⊎_elim (λ i. absurd (n i.0))
            (λ i. ⊎_elim (λ j. absurd (n j.0)) (λ j. j) (swap y b v (used t 1) (free t) l l (past r) (past r) (λ j. j) (λ j. j) i))
            (kept_stretch_back y b v l r s d t 1 refl g);
        was = λ y b v g. (
          ⊎_elim (λ i. absurd (not_there y b v g i.0)) (λ i. i) (kept_stretch y b v l r s d t 1 refl (kept_take_back y b v l (past r) t 1 g)),
          not_there y b v g,
        );
      }

  -- with the free blocks on both sides
  without_both : Without xs (total l) (past l ⟨⟩ free (room l + (s + room r)) ∷ past r)
  without_both =
      let t = room l + (s + room r) in
      record {
        stays = λ y b v g n. ⊎_elim (λ i. absurd (n i.0)) (λ i. i) (kept_join_back y b v l r s d t refl g);
        was = λ y b v g. (
          kept_join y b v l r s d t refl g,
          outside (total l) y t 1 b (past l) (past r) v (swallow c f l r s d o).order (omega (arith, total_past l)) (omega (arith, total_past l, grains_some)) g,
        );
      }

  -- as they are after a return
  without_join : Without xs (total l) (join f l s r).blocks
  unfolding join
  without_join = without_both

-- ---- steps 2 and 3: part of what is free without the block becomes the new one

module _ (c : ℕ) (h : Heap) (x s d p a : ℕ) (f : Lists) (l r : List Block) (t m e : ℕ) (w : m ≤ t) (i : Without h.blocks x (l ⟨⟩ free t ∷ r)) where
  leave_resized : e + p ≤ 2 * m → (2 * total l + e ≡ 2 * x + d) ⊎ ((2 * total l + e) % a ≡ 0) → Ok c (leave f l r t m e)
      → Resized c h x s d p a (2 * total l + e) (leave f l r t m e)
  leave_resized fits al o = record {
    start = total l;
    grains = m;
    place = e;
    here = leave_here f l r t m e w;
    payload = refl;
    long = fits;
    aligned = al;
    kept = λ y b v g n. leave_keeps f l r t m e w y b v (i.stays y b v g n);
    only = λ y b v g. ⊎_elim (λ j. inl j) (λ j. inr (i.was y b v j)) (leave_only f l r t m e w y b v g);
    apart = λ y u j g n. ⊎_elim (λ (k : y + u ≤ total l). inl k) (λ (k : total l + t ≤ y). inr (omega (arith, k, w)))
        (free_apart (total l) t y (used u j) (l ⟨⟩ free t ∷ r) tt (at_here l r (free t)) (i.stays y (used u j) tt g n));
    ok = o;
  }

-- ---- all four steps

-- what is granted is so
abbrev Resizes : ℕ → Heap → ℕ → ℕ → ℕ → ℕ → ℕ → Answer → Type 0
Resizes c h x s d p a (refused w) = Unit {0}
Resizes c h x s d p a (granted v k) = Resized c h x s d p a v k

-- 4: a take, and then a return
module _ (c : ℕ) (h : Heap) (x s d p a : ℕ) (o : Ok c h) (al : Align a) (b : BlockAt x (used s d) 0 h.blocks) where
  -- what was taken was free, so it is not the block, which is live still
  back_resized : (v : ℕ) (g : Heap) (t : Granted c h p a v g) (w : Stands x (used s d) g.blocks) → Resized c h x s d p a v (join g.lists w.before s w.behind)
  back_resized v g t w =
      let oj : Sane c (w.before ⟨⟩ used s d ∷ w.behind) g.lists = rw w.whole at t.ok in
      let i : Without g.blocks x (join g.lists w.before s w.behind).blocks = rw (w.whole, w.place) (without_join c g.lists w.before w.behind s d oj) in
      let n : t.x ≡ x → ⊥ = λ e. free_used (one_block x (used s d) (free t.was) h.blocks o.order b (rw e at t.free_before_lem)) in
      record {
        start = t.x;
        grains = t.s;
        place = t.d;
        here = i.stays t.x (used t.s t.d) tt t.here n;
        payload = t.payload;
        long = t.long;
        aligned = inr t.aligned;
        kept = λ y b v k m. i.stays y b v (t.kept y b v k) m;
        only = λ y b v k. let j = i.was y b v k in ⊎_elim (λ m. inl m) (λ m. inr (m, j.1)) (t.only y b v j.0);
        apart = λ y u e k m. ⊎_elim (λ (j : y + u ≤ t.x). inl j) (λ (j : t.x + t.was ≤ y). inr (omega (arith, j, t.part)))
            (free_apart t.x t.was y (used u e) h.blocks tt t.free_before_lem k);
        ok = join_ok c g.lists w.before w.behind s d oj;
      }

  elsewhere_resized : Resizes c h x s d p a (elsewhere c h (2 * x + d) p a)
  unfolding elsewhere back_after answering
  elsewhere_resized = go (take c h p a) refl
    where
      go : (w : Answer) → take c h p a ≡ w → Resizes c h x s d p a (back_after w (2 * x + d))
      go (refused u) e = tt
      go (granted v g) e =
          let t = take_granted c h p a v g o al e in
          let k = t.kept x (used s d) tt b in
          subst (λ (w : Answer). Resizes c h x s d p a (answering v w)) (sym (live_back g x s d k t.ok.order)) (back_resized v g t (stands_at x (used s d) g.blocks k))

module _ (c p a : ℕ) (al : Align a) (f : Lists) (l r : List Block) (s d : ℕ) (o : Sane c (l ⟨⟩ used s d ∷ r) f) where
  -- the heap and the payload
  abbrev h : Heap
  h = record { blocks = l ⟨⟩ used s d ∷ r; lists = f }

  abbrev q : ℕ
  q = 2 * total l + d

  abbrev Good : Answer → Type 0
  Good = Resizes c h (total l) s d p a

  here : BlockAt (total l) (used s d) 0 h.blocks
  here = at_here l r (used s d)

  -- 3: down, or else elsewhere
  down_resized : Good (down c h q p a l s r)
  unfolding down
  down_resized =
      let i = order_split l (used s d ∷ r) o.order in
      let z = total (past l) in
      let t = room l + (s + room r) in
      let e = place a z in
      let far = elsewhere_resized c h (total l) s d p a o al here in
      eq_case Good (room l) 0 _ _ (λ _. far) λ _.
      le_case Good (keeps e p) t _ _
      (λ (w : keeps e p ≤ t). leave_resized c h (total l) s d p a _ (past l) (past r) t (keeps e p) e w (without_both c f l r s d o) (keeps_holds e p) (inr (place_aligned a z (align_pos a al)))
      (leave_ok c _ (past l) (past r) t 1 (keeps e p) e (keeps_some e p (place_some a z (align_pos a al))) w (place_inside a z p al) (order_past r i.1.2) (swallow c f l r s d o)))
      (λ _. far)

  -- 1: the block is as long as it should be
  same_resized : keeps d p ≡ s → Resized c h (total l) s d p a q h
  same_resized e = record {
    start = total l;
    grains = s;
    place = d;
    here = here;
    payload = refl;
    long = omega (arith, keeps_holds d p);
    aligned = inl refl;
    kept = λ y b v g n. g;
    only = λ y b v g. ⊎_elim (λ (i : y ≡ total l). inl (i, one_block y (used s d) b h.blocks o.order (rw i here) g)) (λ (n : y ≡ total l → ⊥). inr (g, n)) (same? y (total l));
    apart = λ y t j g n. used_apart y t j (total l) s d h.blocks g here n;
    ok = o;
  }

  -- 2: in place
  used_resized : Good (resize_at c h q p a l (used s d ∷ r))
  unfolding resize_at
  used_resized =
      let i = order_split l (used s d ∷ r) o.order in
      let w = i.1.1.1 in
      let k = keeps d p in
      let v : Inside k d = record { some = w.some; within = omega (arith, keeps_holds d p); kind = w.kind } in
      eq_case Good k s _ _ same_resized λ _.
      le_case Good k (s + room r) _ _
      (λ (e : k ≤ s + room r). leave_resized c h (total l) s d p a _ l (past r) (s + room r) k d e (without_behind c f l r s d o) (keeps_holds d p) (inl refl)
      (leave_ok c _ l (past r) (s + room r) d k d (keeps_some d p w.some) e v (order_past r i.1.2) (swallow_behind c f l r s d o)))
      (λ _. down_resized)

-- whatever is granted is so
pub resize_granted : (c : ℕ) (h : Heap) (x s d p a v : ℕ) (k : Heap) → Ok c h → Align a → BlockAt x (used s d) 0 h.blocks → resize c h (2 * x + d) p a ≡ granted v k
    → Resized c h x s d p a v k
resize_granted c h x s d p a v k o al b e =
    let w = stands_at x (used s d) h.blocks b in
    let H : List Block → Heap = λ A. record { blocks = A; lists = h.lists } in
    subst (Resizes c h x s d p a) (sym (live_resize h x s d b o.order c p a) ∙ e)
    (subst (λ (u : ℕ). Resizes c h u s d p a (resize_at c h (2 * u + d) p a w.before (used s d ∷ w.behind))) (sym w.place)
    (subst (λ (A : List Block). Resizes c (H A) (total w.before) s d p a (resize_at c (H A) (2 * total w.before + d) p a w.before (used s d ∷ w.behind))) (sym w.whole)
    (used_resized c p a al h.lists w.before w.behind s d (rw w.whole at o))))
