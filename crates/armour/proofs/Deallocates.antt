-- What follows from specs/Deallocates.antt.
use Rattle.std.specs.Prelude.{ℕ, ◌+◌, ◌-◌, ◌*◌, ◌<◌, ◌≡◌, List, ◌∷◌, ◌++◌}
use Rattle.std.proofs.Common.{arith, sym, ⊎_elim}
use Rattle.std.proofs.Math.Path.{refl, ap, subst}
use Rattle.std.proofs.Math.Logic.{inr}
use Rattle.class.specs.Class.{list_of}
use Rattle.definition.specs.Blocks.{Block, free, used, total, ◌⟨⟩◌, Place, room, past}
use Rattle.definition.specs.Lists.{Lists}
use Rattle.definition.specs.Calls.{granted, join, give_back, give_back_at}
use Rattle.invariants.specs.Order.{out, order_split, BlockAt, Apart, same, before, behind, at_here, stands_at}
use Rattle.invariants.proofs.Order.{total_zip, apart, at_whole, payload_at}
use Rattle.invariants.specs.Moves.{free_used}
use Rattle.invariants.proofs.Neighbours.{total_past, join_ok}
use Rattle.invariants.proofs.Kept.{kept_join, kept_join_back}
use Rattle.invariants.proofs.Gaps.{gap_free, gap_used}
use Rattle.script.specs.Memory.{Memory, apply}
use Rattle.script.specs.Script.{Gives}
use Rattle.script.proofs.Script.{inv_bind}
use Rattle.sound.specs.Swaps.{Swaps}
use Rattle.sound.proofs.Swaps.{owner_unique}
use Rattle.tags.specs.Writes.{deallocate_tags}
use Rattle.tags.proofs.Within.{deallocate_field}
use Rattle.tags.proofs.Stamped.{deallocate_tagged}
use Rattle.chains.specs.Closed.{Headed, Ready}
use Rattle.chains.proofs.Closed.{ready_append}
use Rattle.plans.specs.Deeds.{Plan, plan_of}
use Rattle.plans.specs.Checks.{Owner, see_owner, see_guard, see_after, see_before, see_join}
use Rattle.plans.specs.Checked.{GuardStands}
use Rattle.plans.proofs.Checked.{guard_checked, join_checked}
use Rattle.plans.proofs.Planned.{plan_checked}
use Rattle.plans.specs.Deallocate.{leave_steps, beside_steps, join_steps, deallocate_deed, deallocate_script}
use Rattle.armour.specs.Row.{Row, Free}
use Rattle.armour.proofs.Listing.{listing_sane}
use Rattle.armour.specs.Turns.{link_bounds, Turns}
use Rattle.armour.proofs.Turns.{turns_armoured}
use Rattle.armour.specs.Known.{Beside}
use Rattle.armour.proofs.Known.{headed_known, owner_known, after_known, before_known, whole_block}
use Rattle.armour.proofs.Changed.{tags_records, row_changed, leave_ready, join_ready}
use Rattle.armour.specs.Deallocates.{DeallocateArmoured}

-- ---- the used block of s grains between l and r

module _ (n c : ℕ) (m : Memory) (f : Lists) (l r : List Block) (s d : ℕ) (o : Row n c m (l ⟨⟩ used s d ∷ r)) where
  pub return_defined : give_back (record { blocks = l ⟨⟩ used s d ∷ r; lists = f }) (2 * total l + d) ≡ granted 0 (join f l s r)
  unfolding give_back give_back_at
  return_defined = ap (λ (p : Place). give_back_at f p.before p.behind) (payload_at l r s d (order_split l (used s d ∷ r) o.order).0 (whole_block n c m l r s d o).1.some)

  -- where the joined block starts
  pub joined_start : total (past l) ≡ total l - room l
  joined_start = omega (arith, total_past l)

  pub joined_free : Free (join f l s r).blocks (total l - room l)
  unfolding join
  joined_free = (_, subst (λ (z : ℕ). BlockAt z (free (room l + (s + room r))) 0 (past l ⟨⟩ free (room l + (s + room r)) ∷ past r)) joined_start (at_here (past l) (past r) (free (room l + (s + room r)))))

  pub return_swaps : Swaps (l ⟨⟩ used s d ∷ r) (join f l s r).blocks (total l) (used s d) (total (past l)) (free (room l + (s + room r)))
  unfolding join
  return_swaps = record {
    forth = λ y b v h. kept_join_back y b v l r s d (room l + (s + room r)) refl h;
    back = λ y b v h. inr (kept_join y b v l r s d (room l + (s + room r)) refl h);
  }

  pub return_row : Row n c (apply m (deallocate_tags (total l) s d (room l) (room r))) (join f l s r).blocks
  unfolding join
  return_row =
      let k = join_ok c _ l r s d (listing_sane c (l ⟨⟩ used s d ∷ r) o.order o.short) in
      row_changed n c m (l ⟨⟩ used s d ∷ r) (join f l s r).blocks (deallocate_tags (total l) s d (room l) (room r)) (total l) (used s d) (total (past l)) (free (room l + (s + room r))) o
      (deallocate_field (total l) s d (room l) (room r)) return_swaps gap_used gap_free k.order k.short
      (omega (arith, total_zip (past l) (free (room l + (s + room r)) ∷ past r), total_zip l (used s d ∷ r), total_past l, total_past r, o.whole))
      (deallocate_tagged m l r s d o.order o.tags)

  -- a block that is used afterwards was so before
  pub return_used : (x t e : ℕ) → BlockAt x (used t e) 0 (join f l s r).blocks → BlockAt x (used t e) 0 (l ⟨⟩ used s d ∷ r)
  return_used x t e b = ⊎_elim
      (λ (q : (x ≡ total (past l)) × (free (room l + (s + room r)) ≡ used t e)). absurd (free_used (sym q.1)))
      (λ (q : BlockAt x (used t e) 0 (l ⟨⟩ used s d ∷ r)). q)
      (return_swaps.back x (used t e) tt b)

  -- no used block stands where the block did
  pub return_none : (x t e : ℕ) → BlockAt x (used t e) 0 (join f l s r).blocks → x ≡ total l → ⊥
  unfolding join
  return_none x t e b q = go (apart x (total (past l)) 0 (used t e) (free (room l + (s + room r))) (join f l s r).blocks b (at_here (past l) (past r) (free (room l + (s + room r)))))
    where
      go : Apart x (used t e) (total (past l)) (free (room l + (s + room r))) → ⊥
      go (same a b) = free_used b
      go (before a) = omega (arith, total_past l, (at_whole x (used t e) 0 out (join f l s r).blocks return_row.order b).0)
      go (behind a) = omega (arith, total_past l, (whole_block n c m l r s d o).0)

  -- the payload is no longer live
  pub return_gone : (x t e : ℕ) → BlockAt x (used t e) 0 (join f l s r).blocks → 2 * total l + d ≡ 2 * x + e → ⊥
  return_gone x t e b q = return_none x t e b (owner_unique (l ⟨⟩ used s d ∷ r) x t e (total l) s d o.order (return_used x t e b) (at_here l r (used s d)) (sym q)).0

  pub return_turns : Ready (link_bounds c (l ⟨⟩ used s d ∷ r) (join f l s r).blocks) m (beside_steps (total l) s (room l) (room r) ++ join_steps (total l) s (room l) (room r))
      → Turns n c m (l ⟨⟩ used s d ∷ r) (deallocate_deed (total l) s d (room l) (room r)) (join f l s r).blocks
  return_turns ready = record {
    row = return_row;
    records = tags_records (deallocate_tags (total l) s d (room l) (room r)) (deallocate_field (total l) s d (room l) (room r));
    ready = ready;
    guards = tt;
    users = tt;
    used_before = λ x t e b. inr (t, e, return_used x t e b);
  }

  -- the neighbours leave their lists, whatever blocks there are afterwards
  pub beside_ready : (ys : List Block) → Beside c m (l ⟨⟩ used s d ∷ r) (total l + s) (room r) → Beside c m (l ⟨⟩ used s d ∷ r) (total l - room l) (room l)
      → Ready (link_bounds c (l ⟨⟩ used s d ∷ r) ys) m (beside_steps (total l) s (room l) (room r))
  beside_ready ys a b = ready_append (link_bounds c (l ⟨⟩ used s d ∷ r) ys) m (leave_steps (room r) (total l + s)) (leave_steps (room l) (total l - room l))
      (leave_ready c m _ ys (total l + s) (room r) a) (leave_ready c m _ ys (total l - room l) (room l) b)

-- what holds of the used block between l and r holds of the one that a payload is found to belong to
pub at_owner : (n c q : ℕ) (m : Memory) (xs : List Block) (P : List Block → ℕ → ℕ → ℕ → ℕ → Type 0) {u : Owner} → Row n c m xs → Gives m (see_owner n q) u
    → ((l r : List Block) (s d : ℕ) → Row n c m (l ⟨⟩ used s d ∷ r) → P (l ⟨⟩ used s d ∷ r) (2 * total l + d) (total l) s d) → P xs q u.at u.grains (q - 2 * u.at)
at_owner n c q m xs P {u} o g h =
    let w = owner_known n c m xs o q g in
    let st = stands_at _ _ xs w.0 in
    let s = u.grains in
    let d = q - 2 * u.at in
    let e : 2 * total st.before + d ≡ q = omega (arith, w.1, st.place) in
    subst (λ (x : ℕ). P xs q x s d) (sym st.place) (subst (λ (q : ℕ). P xs q (total st.before) s d) e
    (subst (λ (zs : List Block). Row n c m zs → P zs (2 * total st.before + d) (total st.before) s d) (sym st.whole) (h st.before st.behind s d) o))

pub deallocate_armoured : (n c q : ℕ) (m : Memory) (xs : List Block) (f : Lists) (t : Plan) → Row n c m xs → Gives m (deallocate_script n c q) t → DeallocateArmoured n c q m xs f t
unfolding deallocate_script
deallocate_armoured n c q m xs f t o g =
    let i = inv_bind m (see_owner n q) _ g in
    let j = inv_bind m (see_guard i.0.at) _ i.2 in
    let k = inv_bind m (see_after n c (i.0.at + i.0.grains)) _ j.2 in
    let w = inv_bind m (see_before n c i.0.at) _ k.2 in
    let v = inv_bind m (see_join n c (w.0 + (i.0.grains + k.0))) _ w.2 in
    subst (DeallocateArmoured n c q m xs f) (plan_checked m _ v.2)
    (at_owner n c q m xs
    (λ zs q x s d. GuardStands m x → Gives m (see_after n c (x + s)) k.0 → Gives m (see_before n c x) w.0 → Gives m (see_join n c (w.0 + (s + k.0))) v.0 → DeallocateArmoured n c q m zs f (plan_of m (deallocate_deed x s d w.0 k.0)))
    o i.1 (λ l r s d o gd a b e. returned l r s d k.0 w.0 o gd a b e) (guard_checked m n i.0.at j.1) k.1 w.1 v.1)
  where
    returned : (l r : List Block) (s d b a : ℕ) → Row n c m (l ⟨⟩ used s d ∷ r) → GuardStands m (total l) → Gives m (see_after n c (total l + s)) b → Gives m (see_before n c (total l)) a → {u : Unit {0}} → Gives m (see_join n c (a + (s + b))) u
        → DeallocateArmoured n c (2 * total l + d) m (l ⟨⟩ used s d ∷ r) f (plan_of m (deallocate_deed (total l) s d a b))
    returned l r s d b a o gd ga gb gj =
        let x = after_known n c m l r s d o ga in
        let y = before_known n c m l r s d o gb in
        let z = join_checked m n c (a + (s + b)) gj in
        subst (λ (a : ℕ). Beside c m (l ⟨⟩ used s d ∷ r) (total l - a) a → (list_of (a + (s + b)) < 16 * c) × Headed (Free (l ⟨⟩ used s d ∷ r)) m (list_of (a + (s + b)))
        → DeallocateArmoured n c (2 * total l + d) m (l ⟨⟩ used s d ∷ r) f (plan_of m (deallocate_deed (total l) s d a b))) (sym y.0)
        (subst (λ (b : ℕ). Beside c m (l ⟨⟩ used s d ∷ r) (total l + s) b → Beside c m (l ⟨⟩ used s d ∷ r) (total l - room l) (room l)
        → (list_of (room l + (s + b)) < 16 * c) × Headed (Free (l ⟨⟩ used s d ∷ r)) m (list_of (room l + (s + b)))
        → DeallocateArmoured n c (2 * total l + d) m (l ⟨⟩ used s d ∷ r) f (plan_of m (deallocate_deed (total l) s d (room l) b))) (sym x.0)
        (λ p q h. record {
          block = total l;
          grains = s;
          place = d;
          was_used = at_here l r (used s d);
          payload = refl;
          guarded = gd;
          heap = join f l s r;
          gone = return_gone n c m f l r s d o;
          start = total (past l);
          grown = room l + (s + room r);
          swaps = return_swaps n c m f l r s d o;
          defined = return_defined n c m f l r s d o;
          armoured = turns_armoured n c m (l ⟨⟩ used s d ∷ r) (deallocate_deed (total l) s d (room l) (room r)) (join f l s r).blocks (return_turns n c m f l r s d o
              (ready_append (link_bounds c (l ⟨⟩ used s d ∷ r) (join f l s r).blocks) m (beside_steps (total l) s (room l) (room r)) (join_steps (total l) s (room l) (room r)) (beside_ready n c m f l r s d o (join f l s r).blocks p q)
              (join_ready c m (l ⟨⟩ used s d ∷ r) (join f l s r).blocks (total l - room l) (room l + (s + room r)) h.0 (joined_free n c m f l r s d o) h.1)));
        }) x.1) y.1 (z.0, headed_known n c m (l ⟨⟩ used s d ∷ r) o (list_of (a + (s + b))) z.1)
