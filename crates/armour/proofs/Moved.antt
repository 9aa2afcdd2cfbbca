-- The payload arrives, downwards and elsewhere: no link or guard is written where it stands before the move, nor where it stands
-- after it.
use Rattle.std.specs.Prelude.{ℕ, ◌+◌, ◌-◌, ◌*◌, ◌/◌, ◌%◌, ◌≤◌, ◌<◌, ◌≡◌, refl, List, [], ◌∷◌, ◌++◌, ◌⊎◌}
use Rattle.std.proofs.Common.{arith, div-mul-le_self, div-add-mod', mul-le-mul_right, add-mul, one-mul, subst, inl, inr, ⊎_elim}
use Rattle.choice.specs.Choice.{eq_case, le?, same?}
use Rattle.class.specs.Class.{list_of}
use Rattle.definition.specs.Blocks.{Block, free, used, last, gap, total, ◌⟨⟩◌, room, past}
use Rattle.definition.specs.Calls.{place, keeps}
use Rattle.invariants.specs.Order.{Inside, BlockAt, at_here, Apart, same, before, behind}
use Rattle.invariants.proofs.Order.{apart}
use Rattle.invariants.proofs.Neighbours.{total_past}
use Rattle.invariants.specs.Moves.{free_used}
use Rattle.invariants.specs.Placing.{Align}
use Rattle.invariants.proofs.Placing.{align_pos, place_some, keeps_holds, keeps_wanted}
use Rattle.script.specs.Memory.{Memory, Next, Prev}
use Rattle.tags.proofs.Each.{each_append}
use Rattle.tags.specs.Writes.{allocate_tags, deallocate_tags, down_tags}
use Rattle.tags.proofs.Within.{allocate_field, deallocate_field, down_field}
use Rattle.chains.specs.Links.{Head}
use Rattle.chains.specs.Closed.{Headed, Ready}
use Rattle.chains.proofs.Closed.{ready_append}
use Rattle.plans.specs.Deeds.{Deed, plan_of}
use Rattle.plans.specs.Allocate.{Taken, rest_steps, taken_steps}
use Rattle.plans.specs.Deallocate.{leave_steps, beside_steps, join_steps}
use Rattle.plans.specs.Reallocate.{down_deed, elsewhere_deed}
use Rattle.armour.specs.Row.{Row, Free}
use Rattle.armour.specs.Turns.{Record}
use Rattle.armour.proofs.Stays.{not_free}
use Rattle.armour.specs.Known.{Beside}
use Rattle.armour.proofs.Known.{whole_block}
use Rattle.armour.proofs.Changed.{tags_records}
use Rattle.armour.specs.Allocates.{Found}
use Rattle.armour.specs.Resizes.{Joins, Rests}
use Rattle.armour.proofs.Resizes.{Both}
use Rattle.armour.specs.Carried.{Beyond, beyond_bounds, Carried}
use Rattle.armour.proofs.Carried.{carried}

-- the first multiple after a block's start is not after a multiple that is
pub place_lower : (a z q : ℕ) → 0 < a → q % a ≡ 0 → 2 * z + 1 ≤ q → 2 * z + place a z ≤ q
place_lower a z q pos e h =
    let i = (2 * z + 1 + (a - 1)) / a in
    ⊎_elim
    (λ (k : i ≤ q / a). omega (arith, mul-le-mul_right {m = i} {n = q / a} a k, div-add-mod' q a))
    (λ (k : q / a < i). absurd (omega (arith, next (q / a) i k, div-mul-le_self (2 * z + 1 + (a - 1)) a, div-add-mod' q a)))
    (le? i (q / a))
  where
    next : (j i : ℕ) → j < i → j * a + a ≤ i * a
    next j i k = omega (arith, mul-le-mul_right {m = j + 1} {n = i} a (omega arith), add_one j)
      where
        add_one : (j : ℕ) → (j + 1) * a ≡ j * a + a
        add_one j = omega (arith, add-mul j 1 a, one-mul a)

-- the free block before a used one
pub before_free : (l r : List Block) (s d : ℕ) → (room l ≡ 0 → ⊥) → BlockAt (total (past l)) (free (room l)) 0 (l ⟨⟩ used s d ∷ r)
before_free [] r s d n = absurd (n refl)
before_free (free t ∷ l) r s d n = at_here l (used s d ∷ r) (free t)
before_free (used t v ∷ l) r s d n = absurd (n refl)
before_free (last ∷ l) r s d n = absurd (n refl)
before_free (gap ∷ l) r s d n = absurd (n refl)

-- ---- steps that are ready

module _ (b u c : ℕ) (m : Memory) (xs : List Block) (clear : (y : ℕ) → Free xs y → Beyond b u y) where
  headed_clear : (k : ℕ) → Headed (Free xs) m k → Headed (Beyond b u) m k
  headed_clear k (inl e) = inl e
  headed_clear k (inr h) = inr (clear (m Head k) h)

  beside_clear : (y t : ℕ) → Beside c m xs y t → Ready (beyond_bounds b u) m (leave_steps t y)
  beside_clear y t k = eq_case (Ready (beyond_bounds b u) m) t 0 _ _ (λ _. tt) (λ n. ((tt, clear (m Next y) (k.next n), clear (m Prev y) (k.prev n)), tt))

  rest_clear : (x t k : ℕ) → Rests c m xs t k → Beyond b u (x + k) → Ready (beyond_bounds b u) m (rest_steps x t k)
  rest_clear x t k h e = eq_case (Ready (beyond_bounds b u) m) k t _ _ (λ _. tt) (λ n. ((tt, e, headed_clear (list_of (t - k)) (h.1 n)), tt))

module _ (n c p a : ℕ) (m : Memory) (l r : List Block) (s d : ℕ) (al : Align a) (o : Row n c m (l ⟨⟩ used s d ∷ r)) (gt : s + room r < keeps d p) (both : Both n c p a m l r s d) where
  abbrev xs : List Block
  xs = l ⟨⟩ used s d ∷ r

  -- what is moved, and that there is room for it
  abbrev len : ℕ
  len = 2 * s - d

  inside : (1 ≤ s) × Inside s d
  inside = whole_block n c m l r s d o

  pub fits : 2 * s - d ≤ p
  fits = omega arith

  -- no free block starts in the old payload
  old_clear : (y : ℕ) → Free (l ⟨⟩ used s d ∷ r) y → Beyond (2 * total l + d) (2 * s - d) y
  old_clear y f = ⊎_elim
      (λ (h : total l ≤ y). ⊎_elim
      (λ (k : total l + s ≤ y). inr (omega (arith, inside.1.within)))
      (λ (k : y < total l + s). absurd (not_free xs o.order (total l) s d y (at_here l r (used s d)) h k f))
      (le? (total l + s) y))
      (λ (h : y < total l). inl (omega (arith, inside.1.some)))
      (le? (total l) y)

  both_clear : (b u : ℕ) → ((y : ℕ) → Free (l ⟨⟩ used s d ∷ r) y → Beyond b u y) → Ready (beyond_bounds b u) m (beside_steps (total l) s (room l) (room r))
  both_clear b u h = ready_append (beyond_bounds b u) m (leave_steps (room r) (total l + s)) (leave_steps (room l) (total l - room l))
      (beside_clear b u c m xs h (total l + s) (room r) both.after) (beside_clear b u c m xs h (total l - room l) (room l) both.before)

  -- ---- down

  module _ (nr : room l ≡ 0 → ⊥) (rests : Rests c m (l ⟨⟩ used s d ∷ r) (room l + (s + room r)) (keeps (place a (total (past l))) p)) (aligned : (2 * total l + d) % a ≡ 0) where
    abbrev low : ℕ
    low = total (past l)

    set_some : 1 ≤ place a (total (past l))
    set_some = place_some a low (align_pos a al)

    -- the payload moves down
    pub lower : 2 * total (past l) + place a (total (past l)) ≤ 2 * total l + d
    lower = place_lower a low (2 * total l + d) (align_pos a al) aligned (omega (arith, total_past l, inside.1.some))

    new_clear : (y : ℕ) → Free (l ⟨⟩ used s d ∷ r) y → Beyond (2 * total (past l) + place a (total (past l))) (2 * s - d) y
    new_clear y f = ⊎_elim
        (λ (h : total l + s ≤ y). inr (omega (arith, lower, inside.1.within)))
        (λ (h : y < total l + s). below h (apart low y 0 (free (room l)) (free f.0) xs (before_free l r s d nr) f.1))
        (le? (total l + s) y)
      where
        below : y < total l + s → Apart low (free (room l)) y (free f.0) → Beyond (2 * low + place a low) len y
        below h (same e q) = inl (omega (arith, set_some))
        below h (before e) = absurd (not_free xs o.order (total l) s d y (at_here l r (used s d)) (omega (arith, total_past l)) h f)
        below h (behind e) = inl (omega (arith, set_some))

    rest_beyond : Beyond (2 * total (past l) + place a (total (past l))) (2 * s - d) (total (past l) + keeps (place a (total (past l))) p)
    rest_beyond = inr (omega (arith, keeps_holds (place a low) p, fits))

    -- the deed of a block that starts at z afterwards
    abbrev toward : ℕ → Deed
    toward z = record {
      answer = 2 * z + place a (total (past l));
      moved = 2 * s - d;
      early = beside_steps (total l) s (room l) (room r);
      late = rest_steps z (room l + (s + room r)) (keeps (place a (total (past l))) p);
      guards = z ∷ [];
      records = down_tags (total l) s d (room l) (room r) (keeps (place a (total (past l))) p) (place a (total (past l)));
    }

    pub down_carried : Carried (2 * total l + d) (2 * s - d) (plan_of m (down_deed (total l) s d (room l) (room r) (keeps (place a (total (past l))) p) (place a (total (past l)))))
    down_carried =
        let k = keeps (place a low) p in
        let b = 2 * low + place a low in
        let z : low ≡ total l - room l = omega (arith, total_past l) in
        subst (λ (z : ℕ). Carried (2 * total l + d) len (plan_of m (toward z))) z
        (carried m (2 * total l + d) len (toward low) refl (both_clear (2 * total l + d) len old_clear)
        (ready_append (beyond_bounds b len) m (beside_steps (total l) s (room l) (room r)) (rest_steps low (room l + (s + room r)) k)
        (both_clear b len new_clear) (rest_clear b len c m xs new_clear low (room l + (s + room r)) k rests rest_beyond))
        (inl (omega (arith, set_some)), tt) (tags_records (down_tags (total l) s d (room l) (room r) k (place a low)) (down_field (total l) s d (room l) (room r) k (place a low))))

  -- ---- elsewhere

  module _ (t : Taken) (v : Found n c p a m (l ⟨⟩ used s d ∷ r) t) (joins : Joins c m (l ⟨⟩ used s d ∷ r) (room l + (s + room r))) where
    abbrev y : ℕ
    y = t.block

    abbrev g : ℕ
    g = t.grains

    abbrev set : ℕ
    set = place a t.block

    abbrev kept : ℕ
    kept = keeps (place a t.block) p

    kept_fits : keeps (place a t.block) p ≤ t.grains
    kept_fits = omega (arith, keeps_wanted a y p (align_pos a al), v.enough)

    set_one : 1 ≤ place a t.block
    set_one = place_some a y (align_pos a al)

    taken_clear : (x : ℕ) → Free (l ⟨⟩ used s d ∷ r) x → Beyond (2 * t.block + place a t.block) (2 * s - d) x
    taken_clear x f = go (apart y x 0 (free g) (free f.0) xs v.there f.1)
      where
        go : Apart y (free g) x (free f.0) → Beyond (2 * y + set) len x
        go (same e q) = inl (omega (arith, set_one))
        go (before e) = inr (omega (arith, keeps_holds set p, kept_fits, fits))
        go (behind e) = inl (omega (arith, set_one))

    -- the rest of what is taken is clear of both
    rest_new : Beyond (2 * t.block + place a t.block) (2 * s - d) (t.block + keeps (place a t.block) p)
    rest_new = inr (omega (arith, keeps_holds set p, fits))

    apart_taken : (y + g ≤ total l) ⊎ (total l + s ≤ y)
    apart_taken = go (apart (total l) y 0 (used s d) (free g) xs (at_here l r (used s d)) v.there)
      where
        go : Apart (total l) (used s d) y (free g) → (y + g ≤ total l) ⊎ (total l + s ≤ y)
        go (same e q) = absurd (free_used q)
        go (before e) = inr e
        go (behind e) = inl e

    rest_old : (kept ≡ g → ⊥) → Beyond (2 * total l + d) (2 * s - d) (t.block + keeps (place a t.block) p)
    rest_old ne = ⊎_elim (λ (h : y + g ≤ total l). inl (omega (arith, kept_fits, ne, inside.1.some))) (λ (h : total l + s ≤ y). inr (omega (arith, inside.1.within))) apart_taken

    taken_ready : (b u : ℕ) → ((x : ℕ) → Free (l ⟨⟩ used s d ∷ r) x → Beyond b u x) → ((kept ≡ g → ⊥) → Beyond b u (t.block + keeps (place a t.block) p)) → Ready (beyond_bounds b u) m (taken_steps p a t)
    taken_ready b u h e = (
      (tt, h (m Next y) v.next, h (m Prev y) v.prev),
      eq_case (Ready (beyond_bounds b u) m) kept g _ _ (λ _. tt) (λ n. ((tt, e n, headed_clear b u c m xs h (list_of (g - kept)) (v.rest n)), tt)),
    )

    -- where the joined block starts
    joined_clear : Beyond (2 * t.block + place a t.block) (2 * s - d) (total l - room l)
    joined_clear = ⊎_elim
        (λ (e : room l ≡ 0). ⊎_elim (λ (h : y + g ≤ total l). inr (omega (arith, keeps_holds set p, kept_fits, fits))) (λ (h : total l + s ≤ y). inl (omega (arith, set_one))) apart_taken)
        (λ (ne : room l ≡ 0 → ⊥). let z : total (past l) ≡ total l - room l = omega (arith, total_past l) in
        taken_clear (total l - room l) (_, subst (λ (z : ℕ). BlockAt z (free (room l)) 0 (l ⟨⟩ used s d ∷ r)) z (before_free l r s d ne)))
        (same? (room l) 0)

    pub elsewhere_carried : Carried (2 * total l + d) (2 * s - d) (plan_of m (elsewhere_deed p a (total l) s d (room l) (room r) t))
    elsewhere_carried =
        let b = 2 * y + set in
        let q = 2 * total l + d in
        let w = beside_steps (total l) s (room l) (room r) in
        carried m q len (elsewhere_deed p a (total l) s d (room l) (room r) t) refl
        (ready_append (beyond_bounds q len) m w (taken_steps p a t) (both_clear q len old_clear) (taken_ready q len old_clear rest_old))
        (ready_append (beyond_bounds b len) m (w ++ taken_steps p a t) (join_steps (total l) s (room l) (room r))
        (ready_append (beyond_bounds b len) m w (taken_steps p a t) (both_clear b len taken_clear) (taken_ready b len taken_clear (λ _. rest_new)))
        ((tt, joined_clear, headed_clear b len c m xs taken_clear (list_of (room l + (s + room r))) joins.1), tt))
        (inl (omega (arith, set_one)), tt)
        (each_append Record (allocate_tags y g kept set) (deallocate_tags (total l) s d (room l) (room r))
        (tags_records (allocate_tags y g kept set) (allocate_field y g kept set)) (tags_records (deallocate_tags (total l) s d (room l) (room r)) (deallocate_field (total l) s d (room l) (room r))))
