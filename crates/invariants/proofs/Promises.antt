-- What follows from specs/Promises.antt.
use Rattle.std.specs.Prelude.{ℕ, zero, suc, ◌+◌, ◌-◌, ◌*◌, ◌≤◌, ◌<◌, ◌≡◌, refl, List, [], ◌∷◌, ◌⊎◌}
use Rattle.std.proofs.Common.{arith, ap, sym, ◌∙◌, inl, inr, ⊎_elim}
use Rattle.std.proofs.Math.Path.{subst}
use Rattle.choice.specs.Choice.{eq_case, same?}
use Rattle.class.specs.Class.{list_of, start_of}
use Rattle.class.proofs.Class.{list_small, start_fits, good_fit as looked_at}
use Rattle.definition.specs.Blocks.{Block, free, used, total, ◌⟨⟩◌, Place, find, offset, room, past}
use Rattle.definition.specs.Lists.{Lists, drop, Found, nothing, found, head_or, search}
use Rattle.definition.specs.Calls.{Heap, no_list, refused, granted, wanted, place, keeps, leave, take_at, take}
use Rattle.invariants.specs.Order.{order_split, BlockAt, at_here, stands_at, Apart, same, before, behind}
use Rattle.invariants.proofs.Order.{first_half, offset_at, apart}
use Rattle.invariants.specs.Members.{Mem}
use Rattle.invariants.proofs.Pieces.{free_listed}
use Rattle.invariants.specs.Moves.{Sane, Ok, occupy}
use Rattle.invariants.proofs.Neighbours.{leave_ok}
use Rattle.invariants.specs.Placing.{Align}
use Rattle.invariants.proofs.Placing.{align_pos, place_aligned, place_some, place_inside, keeps_holds, keeps_some, keeps_wanted, wanted_some}
use Rattle.invariants.specs.Kept.{Solid}
use Rattle.invariants.proofs.Kept.{kept_take, kept_take_back, kept_take_split, kept_take_split_back}
use Rattle.invariants.specs.Promises.{Finds, Took, sought, refused_exactly, Granted}

-- ---- the search

-- what is found is so
pub finds : (f : Lists) (n k j x : ℕ) → search f n k ≡ found j x → Finds f n k j x
unfolding search head_or
finds f zero k j x e = let z : ◌≡◌ {A = ℕ} 0 1 = cc in absurd (omega arith)
finds f (suc n) k j x e = go (f k) refl (λ q. finds f n (suc k) j x q) e
  where
    go : (l : List ℕ) → f k ≡ l → (search f n (suc k) ≡ found j x → Finds f n (suc k) j x) → head_or k l (search f n (suc k)) ≡ found j x → Finds f (suc n) k j x
    go [] p i e =
        let r = i e in
        record {
          low = omega (arith, r.low);
          high = omega (arith, r.high);
          rest = r.rest;
          list = r.list;
          first = λ u a b. ⊎_elim (λ (q : u ≡ k). ap f q ∙ p) (λ (q : u ≡ k → ⊥). r.first u (omega (arith, q)) b) (same? u k);
        }
    go (y ∷ l) p i e =
        let a : k ≡ j = cc in
        let b : x ≡ y = cc in
        record { low = omega arith; high = omega arith; rest = l; list = rw (← a, b) p; first = λ u g h. absurd (omega arith) }

-- ---- what take does with what is found

-- the parts of the list of blocks given
took : (c : ℕ) (h : Heap) (p a k y s : ℕ) (l r : List Block) → Ok c h → Align a → sought c h p a ≡ found k y → start_of (wanted p a) ≤ k
    → h.blocks ≡ l ⟨⟩ free s ∷ r → y ≡ total l → list_of s ≡ k → Took c h p a k y
unfolding take take_at
took c h p a k y s l r o al e low wh st li =
    let d = place a y in
    let some = align_pos a al in
    let os : Sane c (l ⟨⟩ free s ∷ r) h.lists = rw wh at o in
    let i = order_split l (free s ∷ r) os.order in
    let w : wanted p a ≤ s = start_fits (wanted p a) s (wanted_some p a some) i.1.1 (rw li low) in
    let f : find offset y [] h.blocks ≡ record { before = l; behind = free s ∷ r } = rw (wh, st) (offset_at l r (free s) i.0) in
    record {
      s = s;
      l = l;
      r = r;
      whole = wh;
      stands = st;
      list = li;
      enough = w;
      answer = ap (take_at h p a) e
          ∙ ap (λ (b : Place). granted (2 * y + d) (leave (drop k y h.lists) b.before (past b.behind) (room b.behind) (keeps d p) d)) f;
      ok = leave_ok c (drop k y h.lists) l r s 1 (keeps d p) d (keeps_some d p (place_some a y some)) (omega (arith, keeps_wanted a y p some)) (place_inside a y p al) i.1.2
          (rw (li, ← st) at (occupy c h.lists l r s 1 (first_half i.1.1) os));
    }

-- the head of the list that is found is a free block that is large enough: part of it is granted
pub take_found : (c : ℕ) (h : Heap) (p a k y : ℕ) → Ok c h → Align a → sought c h p a ≡ found k y → Took c h p a k y
take_found c h p a k y o al e =
    let n = start_of (wanted p a) in
    let fd = finds h.lists (16 * c - n) n k y e in
    let m : Mem y (h.lists k) = rw fd.list (inl refl) in
    let g = o.exact.there k y m in
    let st = stands_at y (free g.0) h.blocks g.1 in
    took c h p a k y g.0 st.before st.behind o al e fd.low st.whole st.place g.2

-- ---- T9: good fit

-- never while some free block has 17/16 of the grains looked for
pub good_fit : (c : ℕ) (h : Heap) (p a y s : ℕ) → Ok c h → 0 < a → BlockAt y (free s) 0 h.blocks → 17 * wanted p a ≤ 16 * s
    → take c h p a ≡ refused no_list → ⊥
good_fit c h p a y s o q b g e =
    let st = stands_at y (free s) h.blocks b in
    let os : Sane c (st.before ⟨⟩ free s ∷ st.behind) h.lists = rw st.whole at o in
    let i = order_split st.before (free s ∷ st.behind) os.order in
    let lt = free_listed c st.before st.behind s i.1.2 os.short in
    let em : h.lists (list_of s) ≡ [] = (refused_exactly c h p a).0 e (list_of s) (looked_at (wanted p a) s (wanted_some p a q) g) (list_small s i.1.1 c lt) in
    subst (Mem y) em (o.exact.listed y s b)

-- ---- T7: what is granted

module _ (f : Lists) (l r : List Block) (t m d : ℕ) (w : m ≤ t) where
  -- the block is there
  pub leave_here : BlockAt (total l) (used m d) 0 (leave f l r t m d).blocks
  unfolding leave
  leave_here = eq_case (λ (h : Heap). BlockAt (total l) (used m d) 0 h.blocks) m t _ _
      (λ e. subst (λ n. BlockAt (total l) (used m d) 0 (l ⟨⟩ used n d ∷ r)) e (at_here l r (used m d)))
      (λ n. at_here l (free (t - m) ∷ r) (used m d))

  module _ (y : ℕ) (b : Block) (v : Solid b) where
    -- and what was not free stays
    pub leave_keeps : BlockAt y b 0 (l ⟨⟩ free t ∷ r) → BlockAt y b 0 (leave f l r t m d).blocks
    unfolding leave
    leave_keeps g = eq_case (λ (h : Heap). BlockAt y b 0 h.blocks) m t _ _
        (λ e. kept_take_back y b v l r t d g)
        (λ n. kept_take_split_back y b v l r t m d (t - m) (omega arith) g)

    -- and nothing else is there
    pub leave_only : BlockAt y b 0 (leave f l r t m d).blocks → ((y ≡ total l) × (used m d ≡ b)) ⊎ BlockAt y b 0 (l ⟨⟩ free t ∷ r)
    unfolding leave
    leave_only = eq_case (λ (h : Heap). BlockAt y b 0 h.blocks → ((y ≡ total l) × (used m d ≡ b)) ⊎ BlockAt y b 0 (l ⟨⟩ free t ∷ r)) m t _ _
        (λ e g. rw e (kept_take y b v l r t d g))
        (λ n g. kept_take_split y b v l r t m d (t - m) (omega arith) g)

-- what grants has found something
some_found : (h : Heap) (p a q : ℕ) (k : Heap) (w : Found) → take_at h p a w ≡ granted q k → (j : ℕ) × (y : ℕ) × (w ≡ found j y)
unfolding take_at
some_found h p a q k nothing e = let z : ◌≡◌ {A = ℕ} 0 1 = cc in absurd (omega arith)
some_found h p a q k (found j y) e = (j, y, refl)

-- the block taken from what was found is so
took_granted : (c : ℕ) (h : Heap) (p a j y : ℕ) → Align a → (t : Took c h p a j y)
    → Granted c h p a (2 * y + place a y) (leave (drop j y h.lists) t.l t.r t.s (keeps (place a y) p) (place a y))
took_granted c h p a j y al t =
    let d = place a y in
    let m = keeps d p in
    let f = drop j y h.lists in
    let w : m ≤ t.s = omega (arith, t.enough, keeps_wanted a y p (align_pos a al)) in
    record {
      x = y;
      s = m;
      d = d;
      here = subst (λ x. BlockAt x (used m d) 0 (leave f t.l t.r t.s m d).blocks) (sym t.stands) (leave_here f t.l t.r t.s m d w);
      payload = refl;
      aligned = place_aligned a y (align_pos a al);
      long = keeps_holds d p;
      was = t.s;
      part = w;
      free_before_lem = rw (t.whole, t.stands) (at_here t.l t.r (free t.s));
      kept = λ z b v g. leave_keeps f t.l t.r t.s m d w z b v (rw t.whole at g);
      only = λ z b v g. rw t.whole (⊎_elim (λ i. inl (i.0 ∙ sym t.stands, i.1)) (λ i. inr i) (leave_only f t.l t.r t.s m d w z b v g));
      ok = t.ok;
    }

-- whatever is granted is so
pub take_granted : (c : ℕ) (h : Heap) (p a q : ℕ) (k : Heap) → Ok c h → Align a → take c h p a ≡ granted q k → Granted c h p a q k
unfolding take
take_granted c h p a q k o al e =
    let w = some_found h p a q k (sought c h p a) e in
    let t = take_found c h p a w.0 w.1 o al w.2 in
    let g = took_granted c h p a w.0 w.1 al t in
    same_answer _ _ _ _ (sym t.answer ∙ e) g
  where
    same_answer : (u v : ℕ) (i j : Heap) → granted u i ≡ granted v j → Granted c h p a u i → Granted c h p a v j
    same_answer u v i j e g =
        let e₁ : u ≡ v = cc in
        let e₂ : i ≡ j = cc in
        subst (λ z. Granted c h p a z j) e₁ (subst (λ z. Granted c h p a u z) e₂ g)

-- two used blocks share no grain
pub used_apart : (x s d y t e : ℕ) (xs : List Block) → BlockAt x (used s d) 0 xs → BlockAt y (used t e) 0 xs → (x ≡ y → ⊥) → (x + s ≤ y) ⊎ (y + t ≤ x)
used_apart x s d y t e xs g h n = go (apart x y 0 (used s d) (used t e) xs g h)
  where
    go : Apart x (used s d) y (used t e) → (x + s ≤ y) ⊎ (y + t ≤ x)
    go (same p q) = absurd (n p)
    go (before p) = inl p
    go (behind p) = inr p
