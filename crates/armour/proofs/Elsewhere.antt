-- What follows from specs/Elsewhere.antt.
use Rattle.std.specs.Prelude.{ℕ, ◌+◌, ◌-◌, ◌*◌, ◌≤◌, ◌<◌, ◌≡◌, refl, ◌⊎◌}
use Rattle.std.proofs.Common.{arith, sym, ◌∙◌, subst, inl, inr, ⊎_elim}
use Rattle.std.proofs.Math.Path.{ap}
use mathlib.Core.List.{List, ◌∷◌, ◌++◌}
use Rattle.class.specs.Class.{list_of}
use Rattle.definition.specs.Blocks.{Block, free, used, total, ◌⟨⟩◌, room, past}
use Rattle.definition.specs.Lists.{Lists, drop, found}
use Rattle.definition.specs.Calls.{Heap, Answer, granted, wanted, place, keeps, join, take_at, give_back, back_after, answering}
use Rattle.invariants.specs.Order.{BlockAt, at_here, stands_at}
use Rattle.invariants.proofs.Order.{at_end_lem}
use Rattle.invariants.specs.Moves.{free_used}
use Rattle.invariants.proofs.Neighbours.{total_past}
use Rattle.invariants.specs.Placing.{Align}
use Rattle.invariants.proofs.Placing.{place_inside}
use Rattle.invariants.proofs.Kept.{solid_free}
use Rattle.invariants.proofs.Promises.{leave_here}
use Rattle.script.specs.Memory.{Memory, Next, Prev, Write, apply}
use Rattle.script.proofs.Memory.{apply_append}
use Rattle.sound.specs.Swaps.{Swaps}
use Rattle.tags.specs.Tag.{Tag, free_tag}
use Rattle.tags.proofs.Each.{each_append}
use Rattle.tags.proofs.Decode.{first_free, free_here}
use Rattle.tags.specs.Writes.{allocate_tags, deallocate_tags}
use Rattle.tags.proofs.Within.{allocate_field, deallocate_field, allocate_within, deallocate_within}
use Rattle.plans.specs.Allocate.{Taken, taken_steps}
use Rattle.plans.specs.Deallocate.{beside_steps, join_steps}
use Rattle.plans.specs.Reallocate.{elsewhere_deed}
use Rattle.chains.specs.Closed.{Headed, Ready as StepsReady}
use Rattle.chains.proofs.Closed.{ready_append}
use Rattle.armour.specs.Row.{Row, Free}
use Rattle.armour.specs.Turns.{link_bounds, Record, Turns}
use Rattle.armour.specs.Known.{Beside}
use Rattle.armour.proofs.Known.{whole_block}
use Rattle.armour.proofs.Changed.{tags_records, join_ready, rest_free}
use Rattle.armour.specs.Allocates.{first_at, Found}
use Rattle.armour.proofs.Allocates.{taken_is, handed, kept_some, kept_fits, take_defined, take_swaps, take_row, take_ready}
use Rattle.armour.proofs.Deallocates.{return_defined, return_row, return_swaps, return_used, return_none, joined_free, beside_ready}
use Rattle.armour.specs.Apart.{Cramped}
use Rattle.armour.proofs.Apart.{outside_same, rooms_same, far, clear}
use Rattle.armour.specs.Elsewhere.{Away}

module _ (n c p a : ℕ) (m : Memory) (f : Lists) (al : Align a) where
  -- the free block of g grains between k and q is taken; the used one stands between l and r, and afterwards between l' and r'
  module _ (k q : List Block) (g : ℕ) (o : Row n c m (k ⟨⟩ free g ∷ q)) (enough : wanted p a ≤ g) (l r : List Block) (s d : ℕ) (e : k ⟨⟩ free g ∷ q ≡ l ⟨⟩ used s d ∷ r)
      (cramped : Cramped p a l r s d) (l' r' : List Block) (e' : (handed n c p a m f k q g al o enough).blocks ≡ l' ⟨⟩ used s d ∷ r') (same : total l ≡ total l') where
    abbrev set : ℕ
    set = place a (total k)

    abbrev kept : ℕ
    kept = keeps (place a (total k)) p

    abbrev pub took : Heap
    took = handed n c p a m f k q g al o enough

    -- the memory when the tags of the take are written
    abbrev pub mid : Memory
    mid = apply m (allocate_tags (total k) g (keeps (place a (total k)) p) (place a (total k)))

    old : Row n c m (l ⟨⟩ used s d ∷ r)
    old = subst (Row n c m) e o

    pub apart_old : (total k + g < total l) ⊎ (total l + s < total k)
    apart_old = far p a l r s d al old.order cramped (total k) g (subst (λ (zs : List Block). BlockAt (total k) (free g) 0 zs) e (at_here k q (free g))) enough

    pub mid_row : Row n c mid (l' ⟨⟩ used s d ∷ r')
    mid_row = subst (Row n c mid) e' (take_row n c p a m f k q g al o enough)

    tag_stays : (y : ℕ) → (y < total k) ⊎ (total k + g ≤ y) → mid Tag y ≡ m Tag y
    tag_stays y h = outside_same m (total k) g y (allocate_tags (total k) g kept set) h
        (allocate_within (total k) g kept set (kept_some n c p a m f k q g al o enough) (kept_fits n c p a m f k q g al o enough) (place_inside a (total k) p al))

    pub rooms : (room l ≡ room l') × (room r ≡ room r')
    rooms = rooms_same m mid l r l' r' s d old.order mid_row.order old.tags mid_row.tags same
        (tag_stays (total l + s) (⊎_elim (λ (h : total k + g < total l). inr (omega arith)) (λ (h : total l + s < total k). inl (omega arith)) apart_old))
        (λ some. tag_stays (total l - 1) (⊎_elim (λ (h : total k + g < total l). inr (omega arith)) (λ (h : total l + s < total k). inl (omega arith)) apart_old))

    abbrev pub back : Heap
    back = join took.lists l' s r'

    abbrev all_tags : List Write
    all_tags = allocate_tags (total k) g (keeps (place a (total k)) p) (place a (total k)) ++ deallocate_tags (total l) s d (room l) (room r)

    end_row : Row n c (apply m all_tags) back.blocks
    end_row = subst (λ (u : Memory). Row n c u back.blocks) (sym (apply_append m (allocate_tags (total k) g kept set) (deallocate_tags (total l) s d (room l) (room r))))
        (subst (λ (x : ℕ). Row n c (apply mid (deallocate_tags x s d (room l) (room r))) back.blocks) (sym same)
        (subst (λ (i : ℕ). Row n c (apply mid (deallocate_tags (total l') s d i (room r))) back.blocks) (sym rooms.0)
        (subst (λ (j : ℕ). Row n c (apply mid (deallocate_tags (total l') s d (room l') j)) back.blocks) (sym rooms.1)
        (return_row n c mid took.lists l' r' s d mid_row))))

    -- the rest of what was taken stays free
    pub clear_old : (total k + g ≤ total (past l)) ⊎ (total l + (s + room r) ≤ total k)
    clear_old = clear p a l r s d al old.order cramped (total k) g (subst (λ (zs : List Block). BlockAt (total k) (free g) 0 zs) e (at_here k q (free g))) enough

    rest_stays : (kept ≡ g → ⊥) → Free back.blocks (total k + kept)
    rest_stays ne =
        let y = total k + kept in
        let fits = kept_fits n c p a m f k q g al o enough in
        let row = take_row n c p a m f k q g al o enough in
        let b = rest_free (drop (list_of g) (total k) f) k q g kept set ne in
        let t : mid Tag y ≡ free_tag (g - kept) = first_free (mid Tag) took.blocks row.order row.tags y (g - kept) b in
        let w = whole_block n c m l r s d old in
        let v : apply m all_tags Tag y ≡ mid Tag y = ap (λ (u : Memory). u Tag y) (apply_append m (allocate_tags (total k) g kept set) (deallocate_tags (total l) s d (room l) (room r)))
        ∙ outside_same mid (total l - room l) (room l + (s + room r)) y (deallocate_tags (total l) s d (room l) (room r))
        (⊎_elim (λ (h : total k + g ≤ total (past l)). inl (omega (arith, ne, total_past l))) (λ (h : total l + (s + room r) ≤ total k). inr (omega (arith, total_past l))) clear_old)
        (deallocate_within (total l) s d (room l) (room r) w.0 w.1 (omega (arith, total_past l))) in
        (_, free_here (apply m all_tags Tag) back.blocks end_row.order end_row.tags y (omega (arith, at_end_lem y (free (g - kept)) 0 took.blocks b, row.whole, end_row.whole, ne)) (omega (arith, t, v)))

    away_swaps : Swaps (l ⟨⟩ used s d ∷ r) back.blocks (total l) (used s d) (total k) (used (keeps (place a (total k)) p) (place a (total k)))
    away_swaps = record {
      forth = λ y b v h. ⊎_elim
          (λ (i : (y ≡ total k) × (free g ≡ b)). absurd (solid_free b v i.1))
          (λ (i : BlockAt y b 0 took.blocks). ⊎_elim
          (λ (j : (y ≡ total l') × (used s d ≡ b)). inl (j.0 ∙ sym same, j.1))
          (λ (j : BlockAt y b 0 back.blocks). inr j)
          ((return_swaps n c mid took.lists l' r' s d mid_row).forth y b v (subst (λ (zs : List Block). BlockAt y b 0 zs) e' i)))
          ((take_swaps n c p a m f k q g al o enough).forth y b v (subst (λ (zs : List Block). BlockAt y b 0 zs) (sym e) h));
      back = λ y b v h. ⊎_elim
          (λ (i : (y ≡ total (past l')) × (free (room l' + (s + room r')) ≡ b)). absurd (solid_free b v i.1))
          (λ (i : BlockAt y b 0 (l' ⟨⟩ used s d ∷ r')). ⊎_elim
          (λ (j : (y ≡ total k) × (used kept set ≡ b)). inl j)
          (λ (j : BlockAt y b 0 (k ⟨⟩ free g ∷ q)). inr (subst (λ (zs : List Block). BlockAt y b 0 zs) e j))
          ((take_swaps n c p a m f k q g al o enough).back y b v (subst (λ (zs : List Block). BlockAt y b 0 zs) (sym e') i)))
          ((return_swaps n c mid took.lists l' r' s d mid_row).back y b v h);
    }

    away_here : BlockAt (total k) (used (keeps (place a (total k)) p) (place a (total k))) 0 back.blocks
    away_here = ⊎_elim
        (λ (j : (total k ≡ total l') × (used s d ≡ used kept set)). absurd (⊎_elim (λ (h : total k + g < total l). omega (arith, j.0, same)) (λ (h : total l + s < total k). omega (arith, j.0, same)) apart_old))
        (λ (j : BlockAt (total k) (used kept set) 0 back.blocks). j)
        ((return_swaps n c mid took.lists l' r' s d mid_row).forth (total k) (used kept set) tt
        (subst (λ (zs : List Block). BlockAt (total k) (used kept set) 0 zs) e' (leave_here (drop (list_of g) (total k) f) k q g kept set (kept_fits n c p a m f k q g al o enough))))

    -- no used block stands where the old one did
    away_gone : (y u v : ℕ) → BlockAt y (used u v) 0 back.blocks → y ≡ total l → ⊥
    away_gone y u v b i = return_none n c mid took.lists l' r' s d mid_row y u v b (i ∙ same)

    -- what was seen for it
    pub record Ready : Type 0 where
      pub small : list_of g < 16 * c
      pub next : Free (l ⟨⟩ used s d ∷ r) (m Next (total k))
      pub prev : Free (l ⟨⟩ used s d ∷ r) (m Prev (total k))
      pub rest : (keeps (place a (total k)) p ≡ g → ⊥) → Headed (Free (l ⟨⟩ used s d ∷ r)) m (list_of (g - keeps (place a (total k)) p))
      pub after : Beside c m (l ⟨⟩ used s d ∷ r) (total l + s) (room r)
      pub before : Beside c m (l ⟨⟩ used s d ∷ r) (total l - room l) (room l)
      pub joins : (list_of (room l + (s + room r)) < 16 * c) × Headed (Free (l ⟨⟩ used s d ∷ r)) m (list_of (room l + (s + room r)))

    pub away_defined : back_after (take_at (record { blocks = l ⟨⟩ used s d ∷ r; lists = f }) p a (found (list_of g) (total k))) (2 * total l + d) ≡ granted (2 * total k + place a (total k)) back
    unfolding back_after answering
    away_defined = ap (λ (zs : List Block). back_after (take_at (record { blocks = zs; lists = f }) p a (found (list_of g) (total k))) (2 * total l + d)) (sym e)
        ∙ ap (λ (w : Answer). back_after w (2 * total l + d)) (take_defined n c p a m f k q g al o enough)
        ∙ ap (answering (2 * total k + set)) (ap (λ (zs : List Block). give_back (record { blocks = zs; lists = took.lists }) (2 * total l + d)) e'
        ∙ ap (λ (x : ℕ). give_back (record { blocks = l' ⟨⟩ used s d ∷ r'; lists = took.lists }) (2 * x + d)) same
        ∙ return_defined n c mid took.lists l' r' s d mid_row)

    joined : Free back.blocks (total l - room l)
    joined = subst (Free back.blocks) (omega (arith, same, rooms.0)) (joined_free n c mid took.lists l' r' s d mid_row)

    pub away_turns : Ready → Turns n c m (l ⟨⟩ used s d ∷ r) (elsewhere_deed p a (total l) s d (room l) (room r) (first_at (total k) g)) back.blocks
    away_turns v =
        let xs = l ⟨⟩ used s d ∷ r in
        let ys = back.blocks in
        let b' = link_bounds c xs ys in
        record {
          row = end_row;
          records = each_append Record (allocate_tags (total k) g kept set) (deallocate_tags (total l) s d (room l) (room r))
              (tags_records (allocate_tags (total k) g kept set) (allocate_field (total k) g kept set))
              (tags_records (deallocate_tags (total l) s d (room l) (room r)) (deallocate_field (total l) s d (room l) (room r)));
          ready = ready_append b' m (beside_steps (total l) s (room l) (room r) ++ taken_steps p a (first_at (total k) g)) (join_steps (total l) s (room l) (room r))
              (ready_append b' m (beside_steps (total l) s (room l) (room r)) (taken_steps p a (first_at (total k) g)) (beside_ready n c m f l r s d old ys v.after v.before)
              (subst (λ (zs : List Block). StepsReady (link_bounds c zs ys) m (taken_steps p a (first_at (total k) g))) e
              (take_ready n c p a m f k q g al o enough ys v.small (subst (λ (zs : List Block). Free zs (m Next (total k))) (sym e) v.next) (subst (λ (zs : List Block). Free zs (m Prev (total k))) (sym e) v.prev)
              (λ ne. subst (λ (zs : List Block). Headed (Free zs) m (list_of (g - kept))) (sym e) (v.rest ne)) rest_stays)))
              (join_ready c m xs ys (total l - room l) (room l + (s + room r)) v.joins.0 joined v.joins.1);
          guards = ((g, subst (λ (zs : List Block). BlockAt (total k) (free g) 0 zs) e (at_here k q (free g))), tt);
          users = ((kept, set, away_here), tt);
          used_before = λ x t u b. ⊎_elim
              (λ (i : (x ≡ total k) × (used kept set ≡ used t u)). inl (inl i.0))
              (λ (i : BlockAt x (used t u) 0 (k ⟨⟩ free g ∷ q)). inr (t, u, subst (λ (zs : List Block). BlockAt x (used t u) 0 zs) e i))
              ((take_swaps n c p a m f k q g al o enough).back x (used t u) tt
              (subst (λ (zs : List Block). BlockAt x (used t u) 0 zs) (sym e') (return_used n c mid took.lists l' r' s d mid_row x t u b)));
        }

    away : Ready → Away n c p a m f (l ⟨⟩ used s d ∷ r) (total l) s d (room l) (room r) (first_at (total k) g)
    away v = record { heap = back; here = away_here; swaps = away_swaps; gone = away_gone; defined = away_defined; turns = away_turns v }

  -- the used block after a take elsewhere
  pub record Parted (k q : List Block) (g : ℕ) (o : Row n c m (k ⟨⟩ free g ∷ q)) (enough : wanted p a ≤ g) (l : List Block) (s d : ℕ) : Type 0 where
    pub before : List Block
    pub behind : List Block
    pub whole : (handed n c p a m f k q g al o enough).blocks ≡ before ⟨⟩ used s d ∷ behind
    pub place : total l ≡ total before

  pub parted : (k q : List Block) (g : ℕ) (o : Row n c m (k ⟨⟩ free g ∷ q)) (enough : wanted p a ≤ g) (l r : List Block) (s d : ℕ) → k ⟨⟩ free g ∷ q ≡ l ⟨⟩ used s d ∷ r → Parted k q g o enough l s d
  parted k q g o enough l r s d e =
      let b : BlockAt (total l) (used s d) 0 (handed n c p a m f k q g al o enough).blocks = ⊎_elim
      (λ (i : (total l ≡ total k) × (free g ≡ used s d)). absurd (free_used (sym i.1))) (λ (i : BlockAt (total l) (used s d) 0 (handed n c p a m f k q g al o enough).blocks). i)
      ((take_swaps n c p a m f k q g al o enough).forth (total l) (used s d) tt (subst (λ (zs : List Block). BlockAt (total l) (used s d) 0 zs) (sym e) (at_here l r (used s d)))) in
      let w = stands_at (total l) (used s d) (handed n c p a m f k q g al o enough).blocks b in
      record { before = w.before; behind = w.behind; whole = w.whole; place = w.place }

  -- whatever block was found
  pub elsewhere_turns : (l r : List Block) (s d : ℕ) (t : Taken) → Row n c m (l ⟨⟩ used s d ∷ r) → Cramped p a l r s d → Found n c p a m (l ⟨⟩ used s d ∷ r) t
      → Beside c m (l ⟨⟩ used s d ∷ r) (total l + s) (room r) → Beside c m (l ⟨⟩ used s d ∷ r) (total l - room l) (room l)
      → (list_of (room l + (s + room r)) < 16 * c) × Headed (Free (l ⟨⟩ used s d ∷ r)) m (list_of (room l + (s + room r)))
      → Away n c p a m f (l ⟨⟩ used s d ∷ r) (total l) s d (room l) (room r) t
  elsewhere_turns l r s d t o cramped v after before joins =
      let xs = l ⟨⟩ used s d ∷ r in
      let st = stands_at t.block (free t.grains) xs v.there in
      let k = st.before in
      let q = st.behind in
      let g = t.grains in
      let o' : Row n c m (k ⟨⟩ free g ∷ q) = subst (Row n c m) st.whole o in
      let w = parted k q g o' v.enough l r s d (sym st.whole) in
      let e = taken_is t (list_of g) (total k) g (sym v.class) st.place refl in
      subst (Away n c p a m f xs (total l) s d (room l) (room r)) e
      (away k q g o' v.enough l r s d (sym st.whole) cramped w.before w.behind w.whole w.place (record {
        small = subst (λ (j : ℕ). j < 16 * c) (sym v.class) v.small;
        next = subst (λ (y : ℕ). Free xs (m Next y)) st.place v.next;
        prev = subst (λ (y : ℕ). Free xs (m Prev y)) st.place v.prev;
        rest = subst (λ (y : ℕ). (keeps (place a y) p ≡ g → ⊥) → Headed (Free xs) m (list_of (g - keeps (place a y) p))) st.place v.rest;
        after = after;
        before = before;
        joins = joins;
      }))
