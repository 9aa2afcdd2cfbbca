-- T11, reallocate without another block: the block keeps its size, stretches or shrinks in place, or moves down into the free
-- block before it. What the deed turns the blocks into, and that the definition says the same.
use Rattle.std.specs.Prelude.{ℕ, ◌+◌, ◌-◌, ◌*◌, ◌≤◌, ◌<◌, ◌≡◌, refl, List, [], ◌∷◌, ◌++◌, ◌⊎◌}
use Rattle.std.proofs.Common.{arith, sym, ◌∙◌, inl, inr, ⊎_elim}
use Rattle.std.proofs.Math.Path.{ap, subst}
use Rattle.choice.specs.Choice.{eq_yes, eq_no, eq_case, le?, le_yes, le_no}
use Rattle.definition.specs.Blocks.{Block, free, used, total, ◌⟨⟩◌, Place, room, past}
use Rattle.definition.specs.Lists.{Lists, skip}
use Rattle.definition.specs.Calls.{Heap, granted, place, keeps, leave, down, elsewhere, resize, resize_at}
use Rattle.invariants.specs.Order.{out, Inside, order_split, BlockAt, Apart, same, before, behind, at_here}
use Rattle.invariants.proofs.Order.{total_zip, apart, at_whole, payload_at}
use Rattle.invariants.proofs.Neighbours.{total_past, order_past, swallow_behind, swallow}
use Rattle.invariants.proofs.Kept.{kept_stretch, kept_stretch_back, kept_stretch_split, kept_stretch_split_back, kept_down, kept_down_back, kept_down_split, kept_down_split_back}
use Rattle.invariants.proofs.Gaps.{gap_used}
use Rattle.invariants.specs.Placing.{Align}
use Rattle.invariants.proofs.Placing.{align_pos, place_some, keeps_some, keeps_holds, place_inside}
use Rattle.invariants.proofs.Promises.{leave_here}
use Rattle.invariants.specs.Moves.{free_used}
use Rattle.script.specs.Memory.{Memory}
use Rattle.sound.specs.Swaps.{Swaps}
use Rattle.tags.specs.Writes.{stretch_tags, down_tags}
use Rattle.tags.proofs.Within.{stretch_field, down_field}
use Rattle.tags.proofs.Stamped.{stretch_tagged, down_tagged}
use Rattle.chains.specs.Closed.{Ready}
use Rattle.plans.specs.Allocate.{rest_steps}
use Rattle.plans.specs.Deallocate.{leave_steps, beside_steps}
use Rattle.plans.specs.Reallocate.{stay_deed, stretch_deed, down_deed}
use Rattle.armour.specs.Row.{Row, Free, Used}
use Rattle.armour.proofs.Listing.{listing_sane}
use Rattle.armour.specs.Turns.{link_bounds, Turns}
use Rattle.armour.proofs.Known.{whole_block}
use Rattle.armour.specs.Changed.{Left}
use Rattle.armour.proofs.Changed.{tags_records, row_changed, rest_free, leave_left}

module _ (n c p a : ℕ) (m : Memory) (f : Lists) (l r : List Block) (s d : ℕ) (al : Align a) (o : Row n c m (l ⟨⟩ used s d ∷ r)) where
  abbrev pub here : Heap
  here = record { blocks = l ⟨⟩ used s d ∷ r; lists = f }

  inside : (1 ≤ s) × Inside s d
  inside = whole_block n c m l r s d o

  pub resize_found : resize c here (2 * total l + d) p a ≡ resize_at c here (2 * total l + d) p a l (used s d ∷ r)
  unfolding resize
  resize_found = ap (λ (b : Place). resize_at c here (2 * total l + d) p a b.before b.behind) (payload_at l r s d (order_split l (used s d ∷ r) o.order).0 inside.1.some)

  -- ---- 1: it keeps its size

  pub stay_turns : Turns n c m (l ⟨⟩ used s d ∷ r) (stay_deed (2 * total l + d)) (l ⟨⟩ used s d ∷ r)
  stay_turns = record { row = o; records = tt; ready = tt; guards = tt; users = tt; used_before = λ x t e b. inr (t, e, b) }

  pub stay_defined : keeps d p ≡ s → resize c here (2 * total l + d) p a ≡ granted (2 * total l + d) here
  unfolding resize_at
  stay_defined e = resize_found ∙ eq_yes (keeps d p) s _ _ e

  -- ---- 2: in place

  -- the payload's place is good in what the block keeps
  kept_inside : Inside (keeps d p) d
  kept_inside = record { some = inside.1.some; within = omega (arith, keeps_holds d p); kind = inside.1.kind }

  pub kept_some : 1 ≤ keeps d p
  kept_some = keeps_some d p inside.1.some

  abbrev pub stretched : Heap
  stretched = leave (skip r (total l + s) f) l (past r) (s + room r) (keeps d p) d

  pub stretch_defined : (keeps d p ≡ s → ⊥) → keeps d p ≤ s + room r → resize c here (2 * total l + d) p a ≡ granted (2 * total l + d) stretched
  unfolding resize_at
  stretch_defined ne le = resize_found ∙ eq_no (keeps d p) s _ _ ne ∙ le_yes (keeps d p) (s + room r) _ _ le

  module _ (le : keeps d p ≤ s + room r) where
    pub stretch_swaps : Swaps (l ⟨⟩ used s d ∷ r) stretched.blocks (total l) (used s d) (total l) (used (keeps d p) d)
    unfolding leave
    stretch_swaps = eq_case (λ (g : Heap). Swaps (l ⟨⟩ used s d ∷ r) g.blocks (total l) (used s d) (total l) (used (keeps d p) d)) (keeps d p) (s + room r) _ _
        (λ e. subst (λ (k : ℕ). Swaps (l ⟨⟩ used s d ∷ r) (l ⟨⟩ used k d ∷ past r) (total l) (used s d) (total l) (used (keeps d p) d)) e
        (record {
          forth = λ y b v i. kept_stretch_back y b v l r s d (keeps d p) d e i;
          back = λ y b v i. kept_stretch y b v l r s d (keeps d p) d e i;
        }))
        (λ ne. record {
          forth = λ y b v i. kept_stretch_split_back y b v l r s d (keeps d p) d (s + room r - keeps d p) (omega arith) i;
          back = λ y b v i. kept_stretch_split y b v l r s d (keeps d p) d (s + room r - keeps d p) (omega arith) i;
        })

    stretch_left : Left n c stretched.blocks
    stretch_left = leave_left n c _ (skip r (total l + s) f) l (past r) (s + room r) d (keeps d p) d
        (swallow_behind c _ l r s d (listing_sane c (l ⟨⟩ used s d ∷ r) o.order o.short)) (order_past r (order_split l (used s d ∷ r) o.order).1.2)
        (omega (arith, total_zip l (used s d ∷ r), total_past r, o.whole)) kept_some le kept_inside

    pub stretch_turns : Ready (link_bounds c (l ⟨⟩ used s d ∷ r) stretched.blocks) m ((leave_steps (room r) (total l + s) ++ rest_steps (total l) (s + room r) (keeps d p)) ++ [])
        → Turns n c m (l ⟨⟩ used s d ∷ r) (stretch_deed (2 * total l + d) (total l) s d (room r) (keeps d p)) stretched.blocks
    stretch_turns ready =
        let k = keeps d p in
        let w = stretch_tags (total l) s d (room r) k in
        record {
          row = row_changed n c m (l ⟨⟩ used s d ∷ r) stretched.blocks w (total l) (used s d) (total l) (used k d) o (stretch_field (total l) s d (room r) k) stretch_swaps gap_used gap_used
              stretch_left.order stretch_left.short stretch_left.whole (stretch_tagged m (skip r (total l + s) f) l r s d k o.order kept_some le kept_inside o.tags);
          records = tags_records w (stretch_field (total l) s d (room r) k);
          ready = ready;
          guards = tt;
          users = tt;
          used_before = λ x t e b. inr (⊎_elim
              (λ (q : (x ≡ total l) × (used k d ≡ used t e)). (s, d, subst (λ (x : ℕ). BlockAt x (used s d) 0 (l ⟨⟩ used s d ∷ r)) (sym q.0) (at_here l r (used s d))))
              (λ (q : BlockAt x (used t e) 0 (l ⟨⟩ used s d ∷ r)). (t, e, q))
              (stretch_swaps.back x (used t e) tt b));
        }

  -- ---- 3: down

  abbrev pub low : ℕ
  low = total (past l)

  abbrev pub all : ℕ
  all = room l + (s + room r)

  abbrev pub low_kept : ℕ
  low_kept = keeps (place a (total (past l))) p

  abbrev pub lowered : Heap
  lowered = leave (skip l (total (past l)) (skip r (total l + s) f)) (past l) (past r) (room l + (s + room r)) (keeps (place a (total (past l))) p) (place a (total (past l)))

  -- what the definition does where there is no room in place
  pub down_found : (keeps d p ≡ s → ⊥) → s + room r < keeps d p → resize c here (2 * total l + d) p a ≡ down c here (2 * total l + d) p a l s r
  unfolding resize_at
  down_found ne gt = resize_found ∙ eq_no (keeps d p) s _ _ ne ∙ le_no (keeps d p) (s + room r) _ _ (omega arith)

  pub down_defined : (keeps d p ≡ s → ⊥) → s + room r < keeps d p → (room l ≡ 0 → ⊥) → low_kept ≤ all → resize c here (2 * total l + d) p a ≡ granted (2 * low + place a low) lowered
  unfolding down
  down_defined ne gt nr le = down_found ne gt ∙ eq_no (room l) 0 _ _ nr ∙ le_yes low_kept all _ _ le

  pub elsewhere_defined : (keeps d p ≡ s → ⊥) → s + room r < keeps d p → (room l ≡ 0) ⊎ (all < low_kept) → resize c here (2 * total l + d) p a ≡ elsewhere c here (2 * total l + d) p a
  unfolding down
  elsewhere_defined ne gt (inl e) = down_found ne gt ∙ eq_yes (room l) 0 _ _ e
  elsewhere_defined ne gt (inr h) = down_found ne gt ∙ eq_case (λ (w : _). w ≡ elsewhere c here (2 * total l + d) p a) (room l) 0 _ _ (λ _. refl) (λ _. le_no low_kept all _ _ (omega arith))

  module _ (le : low_kept ≤ all) where
    pub down_swaps : Swaps (l ⟨⟩ used s d ∷ r) lowered.blocks (total l) (used s d) low (used low_kept (place a low))
    unfolding leave
    down_swaps = eq_case (λ (g : Heap). Swaps (l ⟨⟩ used s d ∷ r) g.blocks (total l) (used s d) low (used low_kept (place a low))) low_kept all _ _
        (λ q. subst (λ (j : ℕ). Swaps (l ⟨⟩ used s d ∷ r) (past l ⟨⟩ used j (place a low) ∷ past r) (total l) (used s d) low (used low_kept (place a low))) q
        (record {
          forth = λ y b v i. kept_down_back y b v l r s d low_kept (place a low) q i;
          back = λ y b v i. kept_down y b v l r s d low_kept (place a low) q i;
        }))
        (λ ne. record {
          forth = λ y b v i. kept_down_split_back y b v l r s d low_kept (place a low) (all - low_kept) (omega arith) i;
          back = λ y b v i. kept_down_split y b v l r s d low_kept (place a low) (all - low_kept) (omega arith) i;
        })

    pub low_some : 1 ≤ low_kept
    low_some = keeps_some (place a low) p (place_some a low (align_pos a al))

    down_left : Left n c lowered.blocks
    down_left = leave_left n c _ (skip l low (skip r (total l + s) f)) (past l) (past r) all 1 low_kept (place a low)
        (swallow c _ l r s d (listing_sane c (l ⟨⟩ used s d ∷ r) o.order o.short)) (order_past r (order_split l (used s d ∷ r) o.order).1.2)
        (omega (arith, total_zip l (used s d ∷ r), total_past l, total_past r, o.whole)) low_some le (place_inside a low p al)

    -- no used block but the new one stands where the old one did
    pub down_gone : (y t u : ℕ) → BlockAt y (used t u) 0 lowered.blocks → (y ≡ low → ⊥) → y ≡ total l → ⊥
    down_gone y t u b ne e =
        let h = leave_here (skip l low (skip r (total l + s) f)) (past l) (past r) all low_kept (place a low) le in
        ⊎_elim
        (λ (i : total l < low + low_kept). inside_new i (apart low y 0 (used low_kept (place a low)) (used t u) lowered.blocks h b))
        (λ (i : low + low_kept ≤ total l). inside_rest i (apart (low + low_kept) y 0 (free (all - low_kept)) (used t u) lowered.blocks
        (rest_free (skip l low (skip r (total l + s) f)) (past l) (past r) all low_kept (place a low) (omega (arith, total_past l, inside.0))) b))
        (⊎_elim (λ (i : low + low_kept ≤ total l). inr i) (λ (i : total l < low + low_kept). inl i) (le? (low + low_kept) (total l)))
      where
        some_grains : 1 ≤ t
        some_grains = (at_whole y (used t u) 0 out lowered.blocks down_left.order b).0

        inside_new : total l < low + low_kept → Apart low (used low_kept (place a low)) y (used t u) → ⊥
        inside_new i (same q v) = ne (sym q)
        inside_new i (before q) = omega arith
        inside_new i (behind q) = omega (arith, total_past l, some_grains)

        inside_rest : low + low_kept ≤ total l → Apart (low + low_kept) (free (all - low_kept)) y (used t u) → ⊥
        inside_rest i (same q v) = free_used (sym v)
        inside_rest i (before q) = omega (arith, total_past l, inside.0)
        inside_rest i (behind q) = omega (arith, some_grains)

    pub down_turns : (room l ≡ 0 → ⊥) → Free (l ⟨⟩ used s d ∷ r) low
        → Ready (link_bounds c (l ⟨⟩ used s d ∷ r) lowered.blocks) m (beside_steps (total l) s (room l) (room r) ++ rest_steps low all low_kept)
        → Turns n c m (l ⟨⟩ used s d ∷ r) (down_deed (total l) s d (room l) (room r) low_kept (place a low)) lowered.blocks
    down_turns nr fr ready =
        let z : low ≡ total l - room l = omega (arith, total_past l) in
        let w = down_tags (total l) s d (room l) (room r) low_kept (place a low) in
        record {
          row = row_changed n c m (l ⟨⟩ used s d ∷ r) lowered.blocks w (total l) (used s d) low (used low_kept (place a low)) o
              (down_field (total l) s d (room l) (room r) low_kept (place a low)) down_swaps gap_used gap_used
              down_left.order down_left.short down_left.whole
              (down_tagged m (skip l low (skip r (total l + s) f)) l r s d low_kept (place a low) o.order low_some le (place_inside a low p al) o.tags);
          records = tags_records w (down_field (total l) s d (room l) (room r) low_kept (place a low));
          ready = subst (λ (z : ℕ). Ready (link_bounds c (l ⟨⟩ used s d ∷ r) lowered.blocks) m (beside_steps (total l) s (room l) (room r) ++ rest_steps z all low_kept)) z ready;
          guards = (subst (Free (l ⟨⟩ used s d ∷ r)) z fr, tt);
          users = (subst (Used lowered.blocks) z (low_kept, place a low, leave_here (skip l low (skip r (total l + s) f)) (past l) (past r) all low_kept (place a low) le), tt);
          used_before = λ x t e b. ⊎_elim
              (λ (q : (x ≡ low) × (used low_kept (place a low) ≡ used t e)). inl (inl (q.0 ∙ z)))
              (λ (q : BlockAt x (used t e) 0 (l ⟨⟩ used s d ∷ r)). inr (t, e, q))
              (down_swaps.back x (used t e) tt b);
        }
