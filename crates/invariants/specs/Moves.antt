-- What holds of every heap (`Ok`), and the moves of which all calls are made. Each move keeps it.
use Rattle.std.specs.Prelude.{ℕ, ◌+◌, ◌≤◌, ◌≡◌, refl, List, [], ◌∷◌, ◌⊎◌}
use Rattle.std.proofs.Common.{arith, add_assoc, ap, sym, subst, inl, inr, ⊎_elim}
use Rattle.choice.specs.Choice.{upd_same}
use Rattle.class.specs.Class.{list_of}
use Rattle.definition.specs.Blocks.{Block, free, used, last, gap, total, ◌⟨⟩◌}
use Rattle.definition.specs.Lists.{Lists, push, drop}
use Rattle.definition.specs.Calls.{Heap}
use Rattle.invariants.specs.Order.{out, busy, idle, side_l, Fits, Inside, Ordered, OrderedL, order_split, order_join, BlockAt, LeftAt, at_split, at_join, at_here, at_low, left_lt, used_fits}
use Rattle.invariants.specs.Members.{Mem, Apiece, mem_drop, mem_dropped, dropped, apiece_drop, mem_push, mem_pushed, apiece_push}
use Rattle.invariants.specs.Pieces.{pieces, pieces_behind, Listed}

-- each list holds exactly the free blocks of its class, each once
pub record Exact (xs : List Block) (f : Lists) : Type 0 where
  pub apiece : Apiece f
  pub there : (k y : ℕ) → Mem y (f k) → (s : ℕ) × BlockAt y (free s) 0 xs × (list_of s ≡ k)
  pub listed : (y s : ℕ) → BlockAt y (free s) 0 xs → Mem y (f (list_of s))

pub record Sane (c : ℕ) (xs : List Block) (f : Lists) : Type 0 where
  pub order : Ordered out xs
  pub exact : Exact xs f
  pub short : Listed c (pieces 0 xs)

abbrev pub Ok : ℕ → Heap → Type 0
Ok c h = Sane c h.blocks h.lists

pub free_used : {s d t : ℕ} → used s d ≡ free t → ⊥
free_used e = let z : ◌≡◌ {A = ℕ} 0 1 = cc in omega arith

-- no free block stands where one is in use
pub used_at : (l r : List Block) (s d t : ℕ) → OrderedL l → 1 ≤ s → BlockAt (total l) (free t) 0 (l ⟨⟩ used s d ∷ r) → ⊥
used_at l r s d t w p h = go (at_split (total l) (free t) l (used s d ∷ r) h)
  where
    go : LeftAt (total l) (free t) l ⊎ BlockAt (total l) (free t) (total l) (used s d ∷ r) → ⊥
    go (inl h) = omega (arith, left_lt (total l) (free t) l w h)
    go (inr (inl h)) = free_used h.1
    go (inr (inr h)) = omega (arith, at_low (total l) (free t) (total l + s) r h)

module _ (c : ℕ) (f : Lists) (l r : List Block) (s d : ℕ) where
  -- occupy: a free block becomes used, and leaves its list
  pub occupy : Inside s d → Sane c (l ⟨⟩ free s ∷ r) f → Sane c (l ⟨⟩ used s d ∷ r) (drop (list_of s) (total l) f)
  occupy v o =
      let i = order_split l (free s ∷ r) o.order in
      let e = o.exact in
      let x = total l in
      let mx : Mem x (f (list_of s)) = e.listed x s (at_here l r (free s)) in
      record {
        order = order_join l (used s d ∷ r) i.0 (used_fits (side_l l) s d, (i.1.1, v), on r i.1.2);
        exact = record {
          apiece = apiece_drop f e.apiece (list_of s) x;
          there = λ k y m.
              let g = e.there k y (mem_drop f e.apiece (list_of s) x k y m) in (
                g.0,
                at_join y (free g.0) l (used s d ∷ r)
                    (put g.0 y (λ q. dropped f e.apiece (list_of s) k x mx (subst (λ u. Mem u (drop (list_of s) x f k)) q m)) (at_split y (free g.0) l (free s ∷ r) g.1)),
                g.2,
              );
          listed = λ y t g. back y t i.0 i.1.1 (λ b. e.listed y t (at_join y (free t) l (free s ∷ r) b)) (at_split y (free t) l (used s d ∷ r) g);
        };
        short = subst (Listed c) (pieces_behind l (free s ∷ r) (used s d ∷ r) (λ n. refl) 0) o.short;
      }
    where
      on : (r : List Block) → Ordered idle r → Ordered busy r
      on [] w = w
      on (free s ∷ r) w = absurd w.0
      on (gap ∷ r) w = absurd w.0
      on (used s d ∷ r) w = w
      on (last ∷ r) w = w

      put : (t y : ℕ) → (y ≡ total l → ⊥) → LeftAt y (free t) l ⊎ BlockAt y (free t) (total l) (free s ∷ r) → LeftAt y (free t) l ⊎ BlockAt y (free t) (total l) (used s d ∷ r)
      put t y n (inl h) = inl h
      put t y n (inr (inl h)) = absurd (n h.0)
      put t y n (inr (inr h)) = inr (inr h)

      back : (y t : ℕ) → OrderedL l → 1 ≤ s → (LeftAt y (free t) l ⊎ BlockAt y (free t) (total l) (free s ∷ r) → Mem y (f (list_of t)))
          → LeftAt y (free t) l ⊎ BlockAt y (free t) (total l) (used s d ∷ r) → Mem y (drop (list_of s) (total l) f (list_of t))
      back y t w p g (inl h) = mem_dropped f o.exact.apiece (list_of s) (total l) (list_of t) y (omega (arith, left_lt y (free t) l w h)) (g (inl h))
      back y t w p g (inr (inl h)) = absurd (free_used h.1)
      back y t w p g (inr (inr h)) = mem_dropped f o.exact.apiece (list_of s) (total l) (list_of t) y (omega (arith, at_low y (free t) (total l + s) r h)) (g (inr (inr h)))

  -- vacate: a used block, between blocks that are not free, becomes free, and joins its list
  pub vacate : Fits (side_l l) (free s) → Ordered idle r → Sane c (l ⟨⟩ used s d ∷ r) f → Sane c (l ⟨⟩ free s ∷ r) (push (list_of s) (total l) f)
  vacate fl fr o =
      let i = order_split l (used s d ∷ r) o.order in
      let e = o.exact in
      let x = total l in
      record {
        order = order_join l (free s ∷ r) i.0 (fl, i.1.1.0, fr);
        exact = record {
          apiece = apiece_push f e.apiece (list_of s) x (λ j m. let g = e.there j x m in used_at l r s d g.0 i.0 i.1.1.0 g.1);
          there = λ k y m. ⊎_elim
              (λ q. (s, at_join y (free s) l (free s ∷ r) (inr (inl (q.0, refl))), sym q.1))
              (λ m. let g = e.there k y m in (g.0, at_join y (free g.0) l (free s ∷ r) (put g.0 y (at_split y (free g.0) l (used s d ∷ r) g.1)), g.2))
              (mem_push f e.apiece (list_of s) x k y m);
          listed = λ y t g. back y t (λ b. e.listed y t (at_join y (free t) l (used s d ∷ r) b)) (at_split y (free t) l (free s ∷ r) g);
        };
        short = subst (Listed c) (pieces_behind l (used s d ∷ r) (free s ∷ r) (λ n. refl) 0) o.short;
      }
    where
      put : (t y : ℕ) → LeftAt y (free t) l ⊎ BlockAt y (free t) (total l) (used s d ∷ r) → LeftAt y (free t) l ⊎ BlockAt y (free t) (total l) (free s ∷ r)
      put t y (inl h) = inl h
      put t y (inr (inl h)) = absurd (free_used h.1)
      put t y (inr (inr h)) = inr (inr h)

      new : (y t : ℕ) → y ≡ total l → s ≡ t → Mem y (push (list_of s) (total l) f (list_of t))
      new y t p q = subst (λ t. Mem y (push (list_of s) (total l) f (list_of t))) q (rw (upd_same f (list_of s) (total l ∷ f (list_of s)) (list_of s) refl) (inl p))

      back : (y t : ℕ) → (LeftAt y (free t) l ⊎ BlockAt y (free t) (total l) (used s d ∷ r) → Mem y (f (list_of t)))
          → LeftAt y (free t) l ⊎ BlockAt y (free t) (total l) (free s ∷ r) → Mem y (push (list_of s) (total l) f (list_of t))
      back y t g (inl h) = mem_pushed f o.exact.apiece (list_of s) (total l) (list_of t) y (g (inl h))
      back y t g (inr (inl h)) = let p : free s ≡ free t = h.1 in new y t h.0 (cc)
      back y t g (inr (inr h)) = mem_pushed f o.exact.apiece (list_of s) (total l) (list_of t) y (g (inr (inr h)))

-- the same free blocks, with other blocks between them: a became b
pub recast : (c : ℕ) (f : Lists) (a b r : List Block) → total a ≡ total b → (OrderedL a → OrderedL b) → (Ordered (side_l a) r → Ordered (side_l b) r)
    → ((y t : ℕ) → LeftAt y (free t) a → LeftAt y (free t) b) → ((y t : ℕ) → LeftAt y (free t) b → LeftAt y (free t) a)
    → (Listed c (pieces 0 (a ⟨⟩ r)) → Listed c (pieces 0 (b ⟨⟩ r))) → Sane c (a ⟨⟩ r) f → Sane c (b ⟨⟩ r) f
recast c f a b r e w v p q n o =
    let i = order_split a r o.order in
    record {
      order = order_join b r (w i.0) (v i.1);
      exact = record {
        apiece = o.exact.apiece;
        there = λ k y m. let h = o.exact.there k y m in
            (h.0, at_join y (free h.0) b r (⊎_elim (λ j. inl (p y h.0 j)) (λ j. inr (rw e at j)) (at_split y (free h.0) a r h.1)), h.2);
        listed = λ y t h. o.exact.listed y t (at_join y (free t) a r (⊎_elim (λ j. inl (q y t j)) (λ j. inr (rw e j)) (at_split y (free t) b r h)));
      };
      short = n o.short;
    }

module _ (c : ℕ) (f : Lists) (l r : List Block) (s d t e : ℕ) where
  pub two_pieces : (v n : ℕ) → pieces n (used s d ∷ used t e ∷ r) ≡ pieces n (used (s + t) v ∷ r)
  two_pieces v n = ap (λ (m : ℕ). pieces m r) (add_assoc n s t)

  pub two_one : (v y u : ℕ) → LeftAt y (free u) (used t e ∷ used s d ∷ l) → LeftAt y (free u) (used (s + t) v ∷ l)
  two_one v y u (inl h) = absurd (free_used h.1)
  two_one v y u (inr (inl h)) = absurd (free_used h.1)
  two_one v y u (inr (inr h)) = inr h

  pub one_two : (v y u : ℕ) → LeftAt y (free u) (used (s + t) v ∷ l) → LeftAt y (free u) (used t e ∷ used s d ∷ l)
  one_two v y u (inl h) = absurd (free_used h.1)
  one_two v y u (inr h) = inr (inr h)

  -- fuse: two used neighbours become one
  pub fuse : (v : ℕ) → Inside (s + t) v → Sane c (l ⟨⟩ used s d ∷ used t e ∷ r) f → Sane c (l ⟨⟩ used (s + t) v ∷ r) f
  fuse v i = recast c f (used t e ∷ used s d ∷ l) (used (s + t) v ∷ l) r (omega arith)
      (λ w. (used_fits (side_l l) (s + t) v, (omega (arith, w.1.0), i), w.2.2))
      (λ w. w) (two_one v) (one_two v)
      (subst (Listed c) (pieces_behind l (used s d ∷ used t e ∷ r) (used (s + t) v ∷ r) (two_pieces v) 0))
