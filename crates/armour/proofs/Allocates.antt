-- What follows from specs/Allocates.antt.
use Rattle.std.specs.Prelude.{ℕ, ◌+◌, ◌-◌, ◌*◌, ◌≤◌, ◌<◌, ◌≡◌, refl, List, [], ◌∷◌, ◌++◌}
use Rattle.std.proofs.Common.{arith, sym, ◌∙◌, subst, inl, inr, ⊎_elim}
use Rattle.std.proofs.Math.Path.{ap}
use Rattle.bits.specs.First.{first_set}
use Rattle.bits.proofs.First.{first_from}
use Rattle.class.specs.Class.{list_of, start_of}
use Rattle.class.proofs.Class.{start_fits}
use Rattle.definition.specs.Blocks.{Block, free, used, total, ◌⟨⟩◌, Place, room, past}
use Rattle.definition.specs.Lists.{Lists, drop, found}
use Rattle.definition.specs.Calls.{Heap, granted, wanted, place, keeps, leave, take_at}
use Rattle.invariants.specs.Order.{out, order_split, BlockAt, at_here, stands_at}
use Rattle.invariants.proofs.Order.{first_half, total_zip, at_whole, offset_at}
use Rattle.invariants.specs.Moves.{occupy}
use Rattle.invariants.proofs.Gaps.{gap_free, gap_used}
use Rattle.invariants.specs.Placing.{Align}
use Rattle.invariants.proofs.Placing.{align_pos, place_some, place_aligned, keeps_some, keeps_holds, place_inside, keeps_wanted, wanted_some}
use Rattle.invariants.proofs.Promises.{leave_here, leave_keeps, leave_only}
use Rattle.script.specs.Memory.{Memory, Next, Prev, Mark, apply}
use Rattle.script.specs.Script.{Gives}
use Rattle.script.proofs.Script.{inv_bind}
use Rattle.sound.specs.Swaps.{Swaps}
use Rattle.tags.specs.Writes.{allocate_tags}
use Rattle.tags.proofs.Within.{allocate_field}
use Rattle.tags.proofs.Stamped.{allocate_tagged}
use Rattle.chains.specs.Closed.{Headed, Ready}
use Rattle.chains.proofs.Closed.{ready_append}
use Rattle.plans.specs.Deeds.{Plan, plan_of}
use Rattle.plans.specs.Planned.{TakenChecked}
use Rattle.plans.proofs.Planned.{plan_checked, taken_checked}
use Rattle.plans.specs.Allocate.{Taken, taken_steps, allocate_deed, see_taken, allocate_script}
use Rattle.armour.specs.Row.{Row, Free}
use Rattle.armour.proofs.Listing.{listing_sane}
use Rattle.armour.specs.Turns.{link_bounds, Turns}
use Rattle.armour.proofs.Turns.{turns_armoured}
use Rattle.armour.proofs.Known.{starts_free, free_known, headed_known}
use Rattle.armour.specs.Changed.{Left}
use Rattle.armour.proofs.Changed.{tags_records, row_changed, rest_free, leave_left, rest_ready}
use Rattle.armour.specs.Allocates.{first_at, AllocateArmoured, Found}

-- ---- the free block of s grains between l and r

module _ (n c p a : ℕ) (m : Memory) (f : Lists) (l r : List Block) (s : ℕ) (al : Align a) (o : Row n c m (l ⟨⟩ free s ∷ r)) (enough : wanted p a ≤ s) where
  abbrev pub set : ℕ
  set = place a (total l)

  abbrev pub kept : ℕ
  kept = keeps (place a (total l)) p

  abbrev pub handed : Heap
  handed = leave (drop (list_of s) (total l) f) l r s (keeps (place a (total l)) p) (place a (total l))

  pub kept_some : 1 ≤ keeps (place a (total l)) p
  kept_some = keeps_some set p (place_some a (total l) (align_pos a al))

  pub kept_fits : keeps (place a (total l)) p ≤ s
  kept_fits = omega (arith, keeps_wanted a (total l) p (align_pos a al))

  pub take_defined : take_at (record { blocks = l ⟨⟩ free s ∷ r; lists = f }) p a (found (list_of s) (total l)) ≡ granted (2 * total l + place a (total l)) handed
  unfolding take_at
  take_defined = ap (λ (b : Place). granted (2 * total l + set) (leave (drop (list_of s) (total l) f) b.before (past b.behind) (room b.behind) kept set))
      (offset_at l r (free s) (order_split l (free s ∷ r) o.order).0)

  pub take_swaps : Swaps (l ⟨⟩ free s ∷ r) handed.blocks (total l) (free s) (total l) (used (keeps (place a (total l)) p) (place a (total l)))
  take_swaps = record {
    forth = λ y b v h. inr (leave_keeps (drop (list_of s) (total l) f) l r s kept set kept_fits y b v h);
    back = λ y b v h. leave_only (drop (list_of s) (total l) f) l r s kept set kept_fits y b v h;
  }

  pub take_left : Left n c handed.blocks
  take_left =
      let i = order_split l (free s ∷ r) o.order in
      leave_left n c _ (drop (list_of s) (total l) f) l r s 1 kept set
      (occupy c _ l r s 1 (first_half i.1.1) (listing_sane c (l ⟨⟩ free s ∷ r) o.order o.short)) i.1.2
      (omega (arith, total_zip l (free s ∷ r), o.whole)) kept_some kept_fits (place_inside a (total l) p al)

  -- the steps are ready, whatever blocks are free afterwards beside the rest
  pub take_ready : (ys : List Block) → list_of s < 16 * c → Free (l ⟨⟩ free s ∷ r) (m Next (total l)) → Free (l ⟨⟩ free s ∷ r) (m Prev (total l))
      → ((kept ≡ s → ⊥) → Headed (Free (l ⟨⟩ free s ∷ r)) m (list_of (s - kept))) → ((kept ≡ s → ⊥) → Free ys (total l + kept))
      → Ready (link_bounds c (l ⟨⟩ free s ∷ r) ys) m (taken_steps p a (first_at (total l) s))
  take_ready ys small nx pv h new = ((small, inl nx, inl pv), rest_ready c m (l ⟨⟩ free s ∷ r) ys (total l) s kept kept_fits small h new)

  pub take_row : Row n c (apply m (allocate_tags (total l) s kept set)) handed.blocks
  take_row = row_changed n c m (l ⟨⟩ free s ∷ r) handed.blocks (allocate_tags (total l) s kept set) (total l) (free s) (total l) (used kept set) o (allocate_field (total l) s kept set) take_swaps gap_free gap_used
      take_left.order take_left.short take_left.whole
      (allocate_tagged m (drop (list_of s) (total l) f) l r s kept set kept_some kept_fits (place_inside a (total l) p al) o.tags)

  pub take_turns : Ready (link_bounds c (l ⟨⟩ free s ∷ r) handed.blocks) m (taken_steps p a (first_at (total l) s) ++ []) → Turns n c m (l ⟨⟩ free s ∷ r) (allocate_deed p a (first_at (total l) s)) handed.blocks
  take_turns ready = record {
    row = take_row;
    records = tags_records (allocate_tags (total l) s kept set) (allocate_field (total l) s kept set);
    ready = ready;
    guards = ((s, at_here l r (free s)), tt);
    users = ((kept, set, leave_here (drop (list_of s) (total l) f) l r s kept set kept_fits), tt);
    used_before = λ x t d b. ⊎_elim
        (λ (q : (x ≡ total l) × (used kept set ≡ used t d)). inl (inl q.0))
        (λ (q : BlockAt x (used t d) 0 (l ⟨⟩ free s ∷ r)). inr (t, d, q))
        (take_swaps.back x (used t d) tt b);
  }

-- ---- what was found

-- a block of a list that is searched is large enough
pub fits : (m : Memory) (c u s : ℕ) → 1 ≤ u → 1 ≤ s → list_of s ≡ first_set (m Mark) (16 * c - start_of u) (start_of u) → u ≤ s
fits m c u s h g e = start_fits u s (omega arith) (omega arith) (omega (arith, first_from (m Mark) (16 * c - start_of u) (start_of u)))

pub taken_found : (n c p a : ℕ) (m : Memory) (xs : List Block) (t : Taken) → Align a → Row n c m xs → TakenChecked n c p a m t → Found n c p a m xs t
taken_found n c p a m xs t al o k =
    let b = starts_free n c m xs o t.block t.grains k.whole.starts in
    record {
      there = b;
      class = k.class;
      low = subst (λ (j : ℕ). start_of (wanted p a) ≤ j) (sym k.first) (first_from (m Mark) (16 * c - start_of (wanted p a)) (start_of (wanted p a)));
      small = k.small;
      enough = fits m c (wanted p a) t.grains (wanted_some p a (align_pos a al)) (at_whole t.block (free t.grains) 0 out xs o.order b) (k.class ∙ k.first);
      next = free_known n c m xs o (m Next t.block) k.next;
      prev = subst (Free xs) (sym k.alone) (t.grains, b);
      rest = λ e. headed_known n c m xs o _ (k.rest e);
    }

pub taken_is : (u : Taken) (k y s : ℕ) → u.list ≡ k → u.block ≡ y → u.grains ≡ s → record { list = k; block = y; grains = s } ≡ u
taken_is u k y s a b e = subst (λ (k : ℕ). record { list = k; block = y; grains = s } ≡ u) a
    (subst (λ (y : ℕ). record { list = u.list; block = y; grains = s } ≡ u) b (subst (λ (s : ℕ). record { list = u.list; block = u.block; grains = s } ≡ u) e refl))

-- what holds of the free block between l and r holds of the one that was found
pub at_found : (n c p a : ℕ) (m : Memory) (xs : List Block) (P : List Block → Taken → Type 0) (u : Taken) → Row n c m xs → Found n c p a m xs u
    → ((l r : List Block) (s : ℕ) → Row n c m (l ⟨⟩ free s ∷ r) → Found n c p a m (l ⟨⟩ free s ∷ r) (first_at (total l) s) → P (l ⟨⟩ free s ∷ r) (first_at (total l) s)) → P xs u
at_found n c p a m xs P u o k h =
    let st = stands_at u.block (free u.grains) xs k.there in
    let l = st.before in
    let r = st.behind in
    let s = u.grains in
    let e = taken_is u (list_of s) (total l) s (sym k.class) st.place refl in
    subst (P xs) e (subst (λ (zs : List Block). Row n c m zs → Found n c p a m zs (first_at (total l) s) → P zs (first_at (total l) s))
    (sym st.whole) (h l r s) o (subst (Found n c p a m xs) (sym e) k))

pub allocate_armoured : (n c p a : ℕ) (m : Memory) (xs : List Block) (f : Lists) (t : Plan) → Align a → Row n c m xs → Gives m (allocate_script n c p a) t → AllocateArmoured n c p a m xs f t
unfolding allocate_script
allocate_armoured n c p a m xs f t al o g =
    let i = inv_bind m (see_taken n c p a) _ g in
    let k = taken_found n c p a m xs i.0 al o (taken_checked n c p a m i.1) in
    subst (AllocateArmoured n c p a m xs f) (plan_checked m _ i.2)
    (at_found n c p a m xs (λ zs u. AllocateArmoured n c p a m zs f (plan_of m (allocate_deed p a u))) i.0 o k (λ l r s o k.
    let h = handed n c p a m f l r s al o k.enough in
    record {
      block = total l;
      grains = s;
      was_free = k.there;
      searched = (k.low, k.small);
      enough = k.enough;
      k = keeps (place a (total l)) p;
      d = place a (total l);
      payload = refl;
      aligned = place_aligned a (total l) (align_pos a al);
      long = keeps_holds (place a (total l)) p;
      heap = h;
      here = leave_here (drop (list_of s) (total l) f) l r s (keeps (place a (total l)) p) (place a (total l)) (kept_fits n c p a m f l r s al o k.enough);
      swaps = take_swaps n c p a m f l r s al o k.enough;
      defined = take_defined n c p a m f l r s al o k.enough;
      armoured = turns_armoured n c m _ _ h.blocks (take_turns n c p a m f l r s al o k.enough
          (ready_append (link_bounds c (l ⟨⟩ free s ∷ r) h.blocks) m (taken_steps p a _) [] (take_ready n c p a m f l r s al o k.enough h.blocks k.small k.next k.prev k.rest
          (λ e. (_, rest_free (drop (list_of s) (total l) f) l r s _ (place a (total l)) e))) tt));
    }))
