-- allocate and deallocate write only what can be stored, on any memory that a decoder may show; and what allocate hands out
-- is inside the arena.
use Rattle.std.specs.Prelude.{ℕ, ◌+◌, ◌-◌, ◌*◌, ◌^◌, ◌≤◌, ◌<◌}
use Rattle.std.proofs.Common.{arith, inl, inr}
use Rattle.std.proofs.Math.Path.{subst}
use mathlib.Core.List.{[]}
use Rattle.bits.proofs.First.{first_from}
use Rattle.class.specs.Class.{list_of, start_of}
use Rattle.class.proofs.Class.{start_fits}
use Rattle.definition.specs.Calls.{wanted, place, keeps}
use Rattle.invariants.specs.Order.{Inside}
use Rattle.invariants.specs.Placing.{Align}
use Rattle.invariants.proofs.Placing.{align_pos, place_some, place_inside, keeps_holds, keeps_some, keeps_wanted, wanted_some}
use Rattle.script.specs.Memory.{Memory, Mark}
use Rattle.script.specs.Script.{◌>>=◌, ◌>>◌, Gives}
use Rattle.script.proofs.Script.{inv_bind}
use Rattle.tags.specs.Each.{Each}
use Rattle.tags.specs.Writes.{deallocate_tags}
use Rattle.tags.proofs.Within.{allocate_field, allocate_within, deallocate_field, deallocate_within}
use Rattle.chains.specs.Closed.{Ready}
use Rattle.chains.proofs.Closed.{ready_append}
use Rattle.plans.specs.Deeds.{Plan, plan_script, writes}
use Rattle.plans.specs.Checks.{Owner, see_owner, see_guard, see_after, see_before, see_join}
use Rattle.plans.proofs.Checked.{Owns, small, large, wide, OwnerChecked, owner_checked}
use Rattle.plans.specs.Planned.{TakenChecked}
use Rattle.plans.proofs.Planned.{plan_checked, taken_checked}
use Rattle.plans.specs.Allocate.{Taken, taken_steps, taken_tags, allocate_deed, see_taken, allocate_script}
use Rattle.plans.specs.Deallocate.{leave_steps, beside_steps, join_steps, deallocate_deed, deallocate_script}
use Rattle.plans.specs.Storable.{Shows, Storable}
use Rattle.plans.specs.StorableParts.{bounds, Bounded}
use Rattle.plans.proofs.StorableParts.{deed_storable, tags_storable, size_short, after_ready, before_ready, beside_ready, rest_steps_lem, join_ready}

-- ---- the block that is handed out

module _ (n c p a : ℕ) (m : Memory) (good : Align a) (t : Taken) (i : TakenChecked n c p a m t) where
  -- it is long enough
  pub taken_fits : keeps (place a t.block) p ≤ t.grains
  taken_fits =
      let u = start_of (wanted p a) in
      let z = align_pos a good in
      omega (
        arith,
        keeps_wanted a t.block p z,
        start_fits (wanted p a) t.grains (wanted_some p a z) i.whole.starts.some (omega (arith, i.class, i.first, first_from (m Mark) (16 * c - u) u)),
      )

  -- so the payload is inside the arena
  pub taken_inside : 2 * t.block + place a t.block + p ≤ 2 * n
  taken_inside = omega (arith, taken_fits, keeps_holds (place a t.block) p, i.whole.ends)

  kept_some : 1 ≤ keeps (place a t.block) p
  kept_some = keeps_some (place a t.block) p (place_some a t.block (align_pos a good))

  list_below : list_of t.grains < 16 * c
  list_below = omega (arith, i.class, i.small)

  module _ (top : ℕ) where
    pub taken_ready : Ready (bounds n c top) m (taken_steps p a t)
    taken_ready = (
      (i.small, i.next.1.inside, omega (arith, i.alone, i.whole.starts.inside)),
      rest_steps_lem n c top m t.block t.grains (keeps (place a t.block) p) kept_some taken_fits i.whole.ends list_below i.rest,
    )

    pub taken_tags_lem : (most : ℕ) → Each (Storable n c top most) (taken_tags p a t)
    taken_tags_lem most =
        let y = t.block in
        let s = t.grains in
        let d = place a y in
        tags_storable n c top most y s (taken_tags p a t) (omega (arith, i.whole.ends)) (size_short c s i.whole.starts.some list_below)
        (allocate_field y s (keeps d p) d) (allocate_within y s (keeps d p) d kept_some taken_fits (place_inside a y p good))

-- ---- allocate

module _ (n c p a : ℕ) (m : Memory) (good : Align a) where
  pub allocate_storable : (top most : ℕ) {t : Plan} → Shows n c top m → Gives m (allocate_script n c p a) t → Each (Storable n c top most) (writes t)
  unfolding allocate_script
  allocate_storable top most {t} s g =
      let i = inv_bind m (see_taken n c p a) _ g in
      let k = taken_checked n c p a m i.1 in
      let d = allocate_deed p a i.0 in
      subst (λ (t : Plan). Each (Storable n c top most) (writes t)) (plan_checked m d i.2) (deed_storable n c top most m d s (record {
        steps = ready_append (bounds n c top) m (taken_steps p a i.0) [] (taken_ready n c p a m good i.0 k top) tt;
        guards = (k.whole.starts.inside, tt);
        records = taken_tags_lem n c p a m good i.0 k top most;
      }))

  -- the payload, and its p half grains, are inside the arena
  pub allocate_inside : {t : Plan} → Gives m (allocate_script n c p a) t → t.answer + p ≤ 2 * n
  unfolding allocate_script
  allocate_inside {t} g =
      let i = inv_bind m (see_taken n c p a) _ g in
      subst (λ (t : Plan). t.answer + p ≤ 2 * n) (plan_checked m (allocate_deed p a i.0) i.2) (taken_inside n c p a m good i.0 (taken_checked n c p a m i.1))

-- ---- the block of a payload

pub owner_inside : (m : Memory) (n q : ℕ) (o : Owner) → OwnerChecked m n q o → (2 * o.at ≤ q) × Inside o.grains (q - 2 * o.at)
owner_inside m n q o h = go h.kind
  where
    go : Owns m n q o → (2 * o.at ≤ q) × Inside o.grains (q - 2 * o.at)
    go (small e f k) = (omega arith, record { some = omega arith; within = omega (arith, h.some); kind = inl (omega arith) })
    go (large e f k) = (omega arith, record { some = omega arith; within = omega (arith, h.some); kind = inr (omega arith) })
    go (wide p e f l x y z w) = (omega arith, record { some = omega arith; within = omega arith; kind = inr (omega arith) })

-- ---- deallocate: a block of s grains at x, and its neighbours, become one free block

module _ (n c top most x s d a b : ℕ) (p : 1 ≤ s) (i : Inside s d) (l : x + s + b < n) (q : a ≤ x) (h : a + (s + b) < 2 ^ c) where
  pub freed_tags : Each (Storable n c top most) (deallocate_tags x s d a b)
  freed_tags = tags_storable n c top most (x - a) (a + (s + b)) (deallocate_tags x s d a b) (omega arith) h (deallocate_field x s d a b) (deallocate_within x s d a b p i q)

  deallocate_bounded : (m : Memory) → Ready (bounds n c top) m (leave_steps b (x + s)) → Ready (bounds n c top) m (leave_steps a (x - a)) → Ready (bounds n c top) m (join_steps x s a b)
      → Bounded n c top most m (deallocate_deed x s d a b)
  deallocate_bounded m u v w = record {
    steps = ready_append (bounds n c top) m (beside_steps x s a b) (join_steps x s a b) (beside_ready n c top m x s a b u v) w;
    guards = tt;
    records = freed_tags;
  }

pub deallocate_storable : (n c q : ℕ) (m : Memory) (top most : ℕ) {t : Plan} → Shows n c top m → Gives m (deallocate_script n c q) t → Each (Storable n c top most) (writes t)
unfolding deallocate_script
deallocate_storable n c q m top most {t} w g =
    let i1 = inv_bind m (see_owner n q) _ g in
    let o = owner_checked m n q i1.1 in
    let i2 = inv_bind m (see_guard i1.0.at) _ i1.2 in
    go i1.0.at i1.0.grains o.some (owner_inside m n q i1.0 o).1 o.ends i2.2
  where
    go : (x s : ℕ) → 1 ≤ s → Inside s (q - 2 * x) → x + s < n → Gives m (see_after n c (x + s) >>= (λ b. see_before n c x >>= (λ a. see_join n c (a + (s + b)) >> plan_script (deallocate_deed x s (q - 2 * x) a b)))) t
        → Each (Storable n c top most) (writes t)
    go x s p i l g =
        let i3 = inv_bind m (see_after n c (x + s)) _ g in
        let i4 = inv_bind m (see_before n c x) _ i3.2 in
        joined i3.0 i4.0 (after_ready n c top m (x + s) i3.1) (before_ready n c top m x (omega arith) i4.1) i4.2
      where
        joined : (b a : ℕ) → (x + s + b < n) × Ready (bounds n c top) m (leave_steps b (x + s)) → (a ≤ x) × Ready (bounds n c top) m (leave_steps a (x - a))
            → Gives m (see_join n c (a + (s + b)) >> plan_script (deallocate_deed x s (q - 2 * x) a b)) t → Each (Storable n c top most) (writes t)
        joined b a u v g =
            let k = inv_bind m (see_join n c (a + (s + b))) _ g in
            let j = join_ready n c top m (x - a) (a + (s + b)) (omega arith) (omega arith) k.1 in
            let d = deallocate_deed x s (q - 2 * x) a b in
            subst (λ (t : Plan). Each (Storable n c top most) (writes t)) (plan_checked m d k.2)
            (deed_storable n c top most m d w (deallocate_bounded n c top most x s (q - 2 * x) a b p i u.0 v.0 j.0 m u.1 v.1 j.1))
