-- What follows from specs/Reallocates.antt.
use Rattle.std.specs.Prelude.{ℕ, ◌+◌, ◌-◌, ◌*◌, ◌%◌, ◌≤◌, ◌<◌, ◌≡◌, refl, List, [], ◌∷◌, ◌++◌}
use Rattle.std.proofs.Common.{arith, ap, sym, ◌∙◌, subst, inl, inr}
use Rattle.class.specs.Class.{start_of}
use Rattle.definition.specs.Blocks.{Block, used, total, ◌⟨⟩◌, room, past}
use Rattle.definition.specs.Lists.{Lists, skip, found}
use Rattle.definition.specs.Calls.{granted, wanted, place, keeps, leave, take_at, back_after}
use Rattle.invariants.specs.Order.{at_here}
use Rattle.invariants.proofs.Neighbours.{total_past}
use Rattle.invariants.specs.Placing.{Align}
use Rattle.invariants.proofs.Placing.{align_pos, place_aligned, keeps_holds}
use Rattle.invariants.proofs.Promises.{leave_here}
use Rattle.script.specs.Memory.{Memory}
use Rattle.script.specs.Script.{Gives}
use Rattle.script.proofs.Script.{inv_bind}
use Rattle.chains.proofs.Closed.{ready_append}
use Rattle.plans.specs.Deeds.{Deed, Plan, plan_of}
use Rattle.plans.specs.Checks.{see_owner, see_guard}
use Rattle.plans.specs.Checked.{GuardStands}
use Rattle.plans.proofs.Checked.{guard_checked}
use Rattle.plans.proofs.Planned.{plan_checked}
use Rattle.plans.specs.Allocate.{rest_steps}
use Rattle.plans.specs.Deallocate.{leave_steps, beside_steps}
use Rattle.plans.specs.Reallocate.{stretch_deed, down_deed, resize_script, reallocate_script}
use Rattle.armour.specs.Row.{Row}
use Rattle.armour.specs.Turns.{link_bounds, Turns}
use Rattle.armour.proofs.Turns.{turns_armoured}
use Rattle.armour.specs.Known.{Beside}
use Rattle.armour.proofs.Changed.{rest_free, leave_ready, rest_ready}
use Rattle.armour.proofs.Deallocates.{at_owner, beside_ready}
use Rattle.armour.proofs.InPlace.{here, stay_turns, stay_defined, stretched, stretch_defined, stretch_swaps, stretch_turns, lowered, down_defined, down_swaps, down_gone, down_turns, elsewhere_defined}
use Rattle.armour.proofs.Elsewhere.{elsewhere_turns}
use Rattle.armour.specs.Resizes.{Rests}
use Rattle.armour.proofs.Resizes.{Both, Step, stays, stretches, lowers, moves, resize_known}
use Rattle.armour.specs.Carried.{Carried}
use Rattle.armour.proofs.Moved.{before_free, fits, down_carried, elsewhere_carried}
use Rattle.armour.specs.Reallocates.{alone, other, Payload, kept, arrives, ReallocateArmoured, Turned}

-- ---- the used block of s grains between l and r

module _ (n c p a : ℕ) (m : Memory) (f : Lists) (l r : List Block) (s d : ℕ) (al : Align a) (o : Row n c m (l ⟨⟩ used s d ∷ r)) where
  abbrev xs : List Block
  xs = l ⟨⟩ used s d ∷ r

  -- 2: the steps are ready
  pub stretch_turned : keeps d p ≤ s + room r → Beside c m (l ⟨⟩ used s d ∷ r) (total l + s) (room r) → Rests c m (l ⟨⟩ used s d ∷ r) (s + room r) (keeps d p)
      → Turns n c m (l ⟨⟩ used s d ∷ r) (stretch_deed (2 * total l + d) (total l) s d (room r) (keeps d p)) (leave (skip r (total l + s) f) l (past r) (s + room r) (keeps d p) d).blocks
  stretch_turned le b h =
      let ys = (stretched n c p a m f l r s d al o).blocks in
      let w = link_bounds c xs ys in
      stretch_turns n c p a m f l r s d al o le
      (ready_append w m (leave_steps (room r) (total l + s) ++ rest_steps (total l) (s + room r) (keeps d p)) []
      (ready_append w m (leave_steps (room r) (total l + s)) (rest_steps (total l) (s + room r) (keeps d p)) (leave_ready c m xs ys (total l + s) (room r) b)
      (rest_ready c m xs ys (total l) (s + room r) (keeps d p) le h.0 h.1 (λ e. (_, rest_free (skip r (total l + s) f) l (past r) (s + room r) (keeps d p) d e)))) tt)

  -- 3: so are these
  pub down_turned : (room l ≡ 0 → ⊥) → keeps (place a (total (past l))) p ≤ room l + (s + room r) → Both n c p a m l r s d
      → Rests c m (l ⟨⟩ used s d ∷ r) (room l + (s + room r)) (keeps (place a (total (past l))) p)
      → Turns n c m (l ⟨⟩ used s d ∷ r) (down_deed (total l) s d (room l) (room r) (keeps (place a (total (past l))) p) (place a (total (past l))))
      (leave (skip l (total (past l)) (skip r (total l + s) f)) (past l) (past r) (room l + (s + room r)) (keeps (place a (total (past l))) p) (place a (total (past l)))).blocks
  down_turned nr le b h =
      let ys = (lowered n c p a m f l r s d al o).blocks in
      let k = keeps (place a (total (past l))) p in
      down_turns n c p a m f l r s d al o le nr (_, before_free l r s d nr)
      (ready_append (link_bounds c xs ys) m (beside_steps (total l) s (room l) (room r)) (rest_steps (total (past l)) (room l + (s + room r)) k) (beside_ready n c m f l r s d o ys b.after b.before)
      (rest_ready c m xs ys (total (past l)) (room l + (s + room r)) k le h.0 h.1
      (λ e. (_, rest_free (skip l (total (past l)) (skip r (total l + s) f)) (past l) (past r) (room l + (s + room r)) k (place a (total (past l))) e))))

  pub turned : {t : Deed} → Step n c p a m l r s d t → Turned n c p a m f l r s d t
  turned (stays e) = record {
    heap = here n c p a m f l r s d al o;
    resized = record {
      z = total l;
      k = s;
      e = d;
      here = at_here l r (used s d);
      payload = refl;
      long = subst (λ (k : ℕ). d + p ≤ 2 * k) e (keeps_holds d p);
      aligned = inl refl;
      swaps = record { forth = λ y b v h. inr h; back = λ y b v h. inr h };
      old = inl refl;
      gone = λ y t u b ne q. ne q;
    };
    defined = alone (stay_defined n c p a m f l r s d al o e);
    turns = stay_turns n c p a m f l r s d al o;
    payload = λ _. kept s (at_here l r (used s d)) refl refl;
    moved = (omega arith, omega arith);
  }
  turned (stretches ne le b h) =
      let g = stretched n c p a m f l r s d al o in
      record {
        heap = g;
        resized = record {
          z = total l;
          k = keeps d p;
          e = d;
          here = leave_here (skip r (total l + s) f) l (past r) (s + room r) (keeps d p) d le;
          payload = refl;
          long = keeps_holds d p;
          aligned = inl refl;
          swaps = stretch_swaps n c p a m f l r s d al o le;
          old = inl refl;
          gone = λ y t u b ne q. ne q;
        };
        defined = alone (stretch_defined n c p a m f l r s d al o ne le);
        turns = stretch_turned le b h;
        payload = λ _. kept (keeps d p) (leave_here (skip r (total l + s) f) l (past r) (s + room r) (keeps d p) d le) refl refl;
        moved = (omega arith, omega arith);
      }
  turned (lowers ne gt nr le b h) =
      let g = lowered n c p a m f l r s d al o in
      let z : total (past l) ≡ total l - room l = omega (arith, total_past l) in
      let k = keeps (place a (total (past l))) p in
      record {
        heap = g;
        resized = record {
          z = total (past l);
          k = k;
          e = place a (total (past l));
          here = leave_here (skip l (total (past l)) (skip r (total l + s) f)) (past l) (past r) (room l + (s + room r)) k (place a (total (past l))) le;
          payload = ap (λ (z : ℕ). 2 * z + place a (total (past l))) (sym z);
          long = keeps_holds (place a (total (past l))) p;
          aligned = inr (subst (λ (z : ℕ). (2 * z + place a (total (past l))) % a ≡ 0) z (place_aligned a (total (past l)) (align_pos a al)));
          swaps = down_swaps n c p a m f l r s d al o le;
          old = inr (_, before_free l r s d nr);
          gone = down_gone n c p a m f l r s d al o le;
        };
        defined = alone (down_defined n c p a m f l r s d al o ne gt nr le ∙ ap (λ (z : ℕ). granted (2 * z + place a (total (past l))) (lowered n c p a m f l r s d al o)) z);
        turns = down_turned nr le b h;
        payload = λ e. arrives (down_carried n c p a m l r s d al o gt b nr h e);
        moved = (omega arith, fits n c p a m l r s d al o gt b);
      }
  turned (moves t ne k b v j) =
      let w = elsewhere_turns n c p a m f al l r s d t o k v b.after b.before j in
      record {
        heap = w.heap;
        resized = record {
          z = t.block;
          k = keeps (place a t.block) p;
          e = place a t.block;
          here = w.here;
          payload = refl;
          long = keeps_holds (place a t.block) p;
          aligned = inr (place_aligned a t.block (align_pos a al));
          swaps = w.swaps;
          old = inr (t.grains, v.there);
          gone = λ y i u b _ q. w.gone y i u b q;
        };
        defined = other t.block t.grains v.there (subst (λ (i : ℕ). start_of (wanted p a) ≤ i) (sym v.class) v.low) (subst (λ (i : ℕ). i < 16 * c) (sym v.class) v.small)
            (elsewhere_defined n c p a m f l r s d al o ne k.after k.before)
            (ap (λ (i : ℕ). back_after (take_at (record { blocks = l ⟨⟩ used s d ∷ r; lists = f }) p a (found i t.block)) (2 * total l + d)) v.class ∙ w.defined);
        turns = w.turns;
        payload = λ _. arrives (elsewhere_carried n c p a m l r s d al o k.after b t v j);
        moved = (omega arith, fits n c p a m l r s d al o k.after b);
      }

pub reallocate_armoured : (n c q p a : ℕ) (m : Memory) (xs : List Block) (f : Lists) (t : Plan) → Align a → Row n c m xs → Gives m (reallocate_script n c q p a) t → ReallocateArmoured n c q p a m xs f t
unfolding reallocate_script
reallocate_armoured n c q p a m xs f t al o g =
    let i = inv_bind m (see_owner n q) _ g in
    let j = inv_bind m (see_guard i.0.at) _ i.2 in
    let k = inv_bind m (resize_script n c q p a i.0.at i.0.grains (q - 2 * i.0.at)) _ j.2 in
    subst (ReallocateArmoured n c q p a m xs f) (plan_checked m k.0 k.2)
    (at_owner n c q m xs (λ zs q x s d. GuardStands m x → Gives m (resize_script n c q p a x s d) k.0 → ReallocateArmoured n c q p a m zs f (plan_of m k.0)) o i.1
    (λ l r s d o gd h. let w = turned n c p a m f l r s d al o (resize_known n c p a m l r s d al o h) in
    record {
      block = total l;
      grains = s;
      place = d;
      was_used = at_here l r (used s d);
      owner = refl;
      guarded = gd;
      heap = w.heap;
      resized = w.resized;
      defined = w.defined;
      armoured = turns_armoured n c m (l ⟨⟩ used s d ∷ r) k.0 w.heap.blocks w.turns;
      payload = w.payload;
      moved = w.moved;
    }) (guard_checked m n i.0.at j.1) k.1)
