-- What follows from specs/StorableResize.antt.
use Rattle.std.specs.Prelude.{ℕ, ◌+◌, ◌-◌, ◌*◌, ◌≤◌, ◌<◌, ◌≡◌}
use native.Mathlib.Omega.{arith}
use Rattle.std.proofs.Math.Path.{subst}
use mathlib.Core.List.{[], ◌++◌}
use Rattle.std.proofs.Math.Logic.{⊎_elim}
use Rattle.definition.specs.Calls.{place, keeps}
use Rattle.invariants.specs.Order.{Inside}
use Rattle.invariants.specs.Placing.{Align}
use Rattle.invariants.proofs.Placing.{align_pos, place_some, place_inside, keeps_holds, keeps_some}
use Rattle.script.specs.Memory.{Memory}
use Rattle.script.specs.Script.{done, ◌>>◌, Gives}
use Rattle.script.proofs.Script.{inv_bind, inv_done}
use Rattle.sound.proofs.Inverted.{inv_if_eq, inv_if_le}
use Rattle.tags.specs.Each.{Each}
use Rattle.tags.specs.Writes.{stretch_tags, down_tags}
use Rattle.tags.proofs.Within.{stretch_field, stretch_within, down_field, down_within}
use Rattle.chains.specs.Closed.{Ready}
use Rattle.chains.proofs.Closed.{ready_append}
use Rattle.plans.specs.Deeds.{Deed, Plan, plan_of, writes}
use Rattle.plans.specs.Checks.{see_owner, see_guard, see_after, see_before, see_rest, see_join}
use Rattle.plans.proofs.Checked.{owner_checked}
use Rattle.plans.proofs.Planned.{plan_checked}
use Rattle.plans.specs.Allocate.{rest_steps}
use Rattle.plans.specs.Deallocate.{leave_steps, beside_steps}
use Rattle.plans.specs.Reallocate.{stretch_deed, down_deed, elsewhere_script, down_script, move_script, stretch_script, resize_script, reallocate_script}
use Rattle.plans.specs.Storable.{Shows, Storable}
use Rattle.plans.specs.StorableParts.{bounds}
use Rattle.plans.proofs.StorableParts.{deed_storable, tags_storable, after_ready, before_ready, beside_ready, rest_ready}
use Rattle.plans.proofs.StorableCalls.{owner_inside}
use Rattle.plans.specs.StorableResize.{Placed}
use Rattle.plans.proofs.StorableElsewhere.{Resized}

module _ (n c top most q p al : ℕ) (m : Memory) (good : Align al) where
  -- the block of the payload: s grains at x, with b free grains after it; the payload's place in it is d
  module _ (x s d b : ℕ) (at : 2 * x + d ≡ q) (some : 1 ≤ s) (i : Inside s d) (end : x + s + b < n) (ub : Ready (bounds n c top) m (leave_steps b (x + s))) where
    elsewhere_bounded : (a : ℕ) (t : Deed) → 2 * s < d + p → a ≤ x → Ready (bounds n c top) m (leave_steps a (x - a)) → Gives m (elsewhere_script n c p al x s d a b) t
        → Resized n c top most m q p t
    elsewhere_bounded = Rattle.plans.proofs.StorableElsewhere.elsewhere_bounded n c top most q p al m good x s d b at some i end ub

    -- 3: down
    down_bounded : (a : ℕ) (t : Deed) → 2 * s < d + p → a ≤ x → Ready (bounds n c top) m (leave_steps a (x - a)) → Gives m (down_script n c p al x s d a b) t
        → Resized n c top most m q p t
    unfolding down_script
    down_bounded a t less l ua g = ⊎_elim
        (λ j. here (place al (x - a)) (keeps (place al (x - a)) p) (keeps_holds (place al (x - a)) p) j.0
        (keeps_some (place al (x - a)) p (place_some al (x - a) (align_pos al good))) (place_inside al (x - a) p good) j.1)
        (λ j. elsewhere_bounded a t less l ua j.1)
        (inv_if_le m (keeps (place al (x - a)) p) (a + (s + b)) _ _ g)
      where
        here : (e k : ℕ) → e + p ≤ 2 * k → k ≤ a + (s + b) → 1 ≤ k → Inside k e → Gives m (see_rest n c (a + (s + b)) k >> done (down_deed x s d a b k e)) t → Resized n c top most m q p t
        here e k holds fits one o g =
            let j = inv_bind m (see_rest n c (a + (s + b)) k) _ g in
            let w = rest_ready n c top m (x - a) (a + (s + b)) k one fits (omega arith) j.1 in
            subst (Resized n c top most m q p) (inv_done m _ t j.2) (record {
              bounded = record {
                steps = ready_append (bounds n c top) m (beside_steps x s a b) (rest_steps (x - a) (a + (s + b)) k) (beside_ready n c top m x s a b ub ua) w.1;
                guards = (omega arith, tt);
                records = tags_storable n c top most (x - a) (a + (s + b)) (down_tags x s d a b k e) (omega arith) w.0 (down_field x s d a b k e)
                    (down_within x s d a b k e some i l one fits o);
              };
              placed = record { inside = omega arith; from = omega (arith, i.within); to = omega arith };
            })

    -- 3 or 4
    move_bounded : (t : Deed) → 2 * s < d + p → Gives m (move_script n c p al x s d b) t → Resized n c top most m q p t
    unfolding move_script
    move_bounded t less g =
        let j = inv_bind m (see_before n c x) _ g in
        let w = before_ready n c top m x (omega arith) j.1 in
        ⊎_elim
        (λ k. elsewhere_bounded 0 t less (omega arith) (subst (λ (a : ℕ). Ready (bounds n c top) m (leave_steps a (x - a))) k.0 w.1) k.1)
        (λ k. down_bounded j.0 t less w.0 w.1 k.1)
        (inv_if_eq m j.0 0 _ _ j.2)

    -- 2: in place, or moved because it doesn't fit there
    stretch_bounded : (t : Deed) → Gives m (stretch_script n c q p al x s d b) t → Resized n c top most m q p t
    unfolding stretch_script
    stretch_bounded t g = ⊎_elim
        (λ j. here (keeps d p) (keeps_holds d p) j.0 (keeps_some d p i.some) j.1)
        (λ j. move_bounded t (omega (arith, j.0)) j.1)
        (inv_if_le m (keeps d p) (s + b) _ _ g)
      where
        here : (k : ℕ) → d + p ≤ 2 * k → k ≤ s + b → 1 ≤ k → Gives m (see_rest n c (s + b) k >> done (stretch_deed q x s d b k)) t → Resized n c top most m q p t
        here k holds fits one g =
            let j = inv_bind m (see_rest n c (s + b) k) _ g in
            let w = rest_ready n c top m x (s + b) k one fits (omega arith) j.1 in
            subst (Resized n c top most m q p) (inv_done m _ t j.2) (record {
              bounded = record {
                steps = ready_append (bounds n c top) m (leave_steps b (x + s) ++ rest_steps x (s + b) k) []
                    (ready_append (bounds n c top) m (leave_steps b (x + s)) (rest_steps x (s + b) k) ub w.1) tt;
                guards = tt;
                records = tags_storable n c top most x (s + b) (stretch_tags x s d b k) (omega arith) w.0 (stretch_field x s d b k) (stretch_within x s d b k one fits);
              };
              placed = record { inside = omega arith; from = omega (arith, i.within); to = omega (arith, i.within) };
            })

  resize_bounded : (x s d : ℕ) (t : Deed) → 2 * x + d ≡ q → 1 ≤ s → Inside s d → x + s < n → Gives m (resize_script n c q p al x s d) t → Resized n c top most m q p t
  unfolding resize_script
  resize_bounded x s d t at some i end g = ⊎_elim
      (λ j. subst (Resized n c top most m q p) (inv_done m _ t j.1) (record {
        bounded = record { steps = tt; guards = tt; records = tt };
        placed = record { inside = omega (arith, keeps_holds d p, j.0); from = omega (arith, i.within); to = omega (arith, i.within) };
      }))
      (λ j.
      let k = inv_bind m (see_after n c (x + s)) _ j.1 in
      let w = after_ready n c top m (x + s) k.1 in
      stretch_bounded x s d k.0 at some i w.0 w.1 t k.2)
      (inv_if_eq m (keeps d p) s _ _ g)

  -- the plan of a deed that keeps within bounds
  reallocated : {t : Plan} → Gives m (reallocate_script n c q p al) t → (d : Deed) × (plan_of m d ≡ t) × Resized n c top most m q p d
  unfolding reallocate_script
  reallocated {t} g =
      let i1 = inv_bind m (see_owner n q) _ g in
      let x = i1.0.at in
      let s = i1.0.grains in
      let i2 = inv_bind m (see_guard x) _ i1.2 in
      let i3 = inv_bind m (resize_script n c q p al x s (q - 2 * x)) _ i2.2 in
      let o = owner_checked m n q i1.1 in
      let h = owner_inside m n q i1.0 o in
      (i3.0, plan_checked m i3.0 i3.2, resize_bounded x s (q - 2 * x) i3.0 (omega (arith, h.0)) o.some h.1 o.ends i3.1)

module _ (n c q p al : ℕ) (m : Memory) (good : Align al) where
  pub reallocate_storable : (top most : ℕ) {t : Plan} → Shows n c top m → Gives m (reallocate_script n c q p al) t → Each (Storable n c top most) (writes t)
  reallocate_storable top most {t} s g =
      let r = reallocated n c top most q p al m good g in
      subst (λ (t : Plan). Each (Storable n c top most) (writes t)) r.1 (deed_storable n c top most m r.0 s r.2.bounded)

  pub reallocate_placed : {t : Plan} → Gives m (reallocate_script n c q p al) t → Placed n q p t.answer t.moved
  reallocate_placed {t} g = let r = reallocated n c 0 0 q p al m good g in subst (λ (t : Plan). Placed n q p t.answer t.moved) r.1 r.2.placed
