-- Who writes the table of regions: on any memory, allocate, deallocate and reallocate leave it alone, and a region that is given
-- raises the number of regions by one.
use Rattle.std.specs.Prelude.{ℕ, suc, ◌+◌, ◌-◌, ◌*◌, ◌≡◌, refl, ◌++◌}
use Rattle.std.proofs.Common.{arith, ap, ◌∙◌, subst, inr}
use Rattle.choice.specs.Choice.{if_eq, eq_case, le_case, upd_same}
use Rattle.definition.specs.Calls.{place, keeps}
use Rattle.script.specs.Memory.{Memory, Table, apply, Untouched}
use Rattle.script.proofs.Memory.{apply_append, apply_untouched, untouched_append}
use Rattle.script.specs.Script.{done, stop, unless_le, must_eq, must_le, Gives, Ends}
use Rattle.script.proofs.Script.{inv_bind, inv_get, ends_any, ends_gives}
use Rattle.sound.specs.RegionPlan.{see_regions, entry_writes}
use Rattle.tags.specs.Tag.{Tag}
use Rattle.tags.specs.Each.{Each}
use Rattle.tags.proofs.Each.{each_append, each_untouched}
use Rattle.tags.specs.Writes.{allocate_tags, deallocate_tags}
use Rattle.tags.specs.Within.{ToTag}
use Rattle.tags.proofs.Within.{allocate_field, deallocate_field, stretch_field, down_field}
use Rattle.chains.specs.Legal.{Else}
use Rattle.chains.proofs.Legal.{steps_rest}
use Rattle.chains.specs.Steps.{steps_writes}
use Rattle.plans.specs.Deeds.{Deed, Plan, guard_writes, early_writes, late_writes, plan_of, writes, after}
use Rattle.plans.specs.Checks.{see_owner, see_guard, see_after, see_before, see_rest, see_join}
use Rattle.plans.proofs.Planned.{plan_checked}
use Rattle.plans.specs.Allocate.{allocate_deed, see_taken, allocate_script}
use Rattle.plans.specs.Deallocate.{deallocate_deed, deallocate_script}
use Rattle.plans.specs.Reallocate.{elsewhere_script, down_script, move_script, stretch_script, resize_script, reallocate_script}
use Rattle.plans.specs.Regions.{lay_tags, lay_over, region_deed, see_pieces, region_script}
use Rattle.armour.proofs.Turns.{guards_rest, after_records}
use Rattle.armour.specs.Inserts.{nothing_seen}

-- a deed whose records are tags alone
abbrev Tags : Deed → Type 0
Tags t = Each ToTag t.records

elsewhere : Else Table
elsewhere = record { next = omega arith; prev = omega arith; head = omega arith; mark = omega arith }

deed_untouched : (m : Memory) (t : Deed) → Tags t → Untouched Table (writes (plan_of m t))
deed_untouched m t h =
    let u = apply m (early_writes m t) in
    untouched_append Table (early_writes m t) (late_writes m t) (steps_rest Table elsewhere m t.early)
    (untouched_append Table (steps_writes u t.late) (guard_writes t.guards ++ t.records) (steps_rest Table elsewhere u t.late)
    (untouched_append Table (guard_writes t.guards) t.records (guards_rest Table elsewhere t.guards) (each_untouched Tag Table t.records (omega arith) h)))

pub allocate_untouched : (n c p a : ℕ) (m : Memory) {t : Plan} → Gives m (allocate_script n c p a) t → Untouched Table (writes t)
unfolding allocate_script
allocate_untouched n c p a m {t} g =
    let i = inv_bind m (see_taken n c p a) _ g in
    let d = place a i.0.block in
    subst (λ (t : Plan). Untouched Table (writes t)) (plan_checked m (allocate_deed p a i.0) i.2)
    (deed_untouched m (allocate_deed p a i.0) (allocate_field i.0.block i.0.grains (keeps d p) d))

pub deallocate_untouched : (n c q : ℕ) (m : Memory) {t : Plan} → Gives m (deallocate_script n c q) t → Untouched Table (writes t)
unfolding deallocate_script
deallocate_untouched n c q m {t} g =
    let i = inv_bind m (see_owner n q) _ g in
    let j = inv_bind m (see_guard i.0.at) _ i.2 in
    let k = inv_bind m (see_after n c (i.0.at + i.0.grains)) _ j.2 in
    let w = inv_bind m (see_before n c i.0.at) _ k.2 in
    let v = inv_bind m (see_join n c (w.0 + (i.0.grains + k.0))) _ w.2 in
    let d = deallocate_deed i.0.at i.0.grains (q - 2 * i.0.at) w.0 k.0 in
    subst (λ (t : Plan). Untouched Table (writes t)) (plan_checked m d v.2) (deed_untouched m d (deallocate_field i.0.at i.0.grains (q - 2 * i.0.at) w.0 k.0))

elsewhere_tags : (n c p a x s d i j : ℕ) → Ends Tags (elsewhere_script n c p a x s d i j)
unfolding elsewhere_script
elsewhere_tags n c p a x s d i j = ends_any Tags (see_taken n c p a) _ λ t. ends_any Tags (see_join n c (i + (s + j))) _ λ _.
    let e = place a t.block in
    each_append ToTag (allocate_tags t.block t.grains (keeps e p) e) (deallocate_tags x s d i j) (allocate_field t.block t.grains (keeps e p) e) (deallocate_field x s d i j)

resize_tags : (n c q p a x s d : ℕ) → Ends Tags (resize_script n c q p a x s d)
unfolding resize_script stretch_script move_script down_script
resize_tags n c q p a x s d = eq_case (Ends Tags) (keeps d p) s _ _ (λ _. tt) λ _.
    ends_any Tags (see_after n c (x + s)) _ λ b. le_case (Ends Tags) (keeps d p) (s + b) _ _
    (λ _. ends_any Tags (see_rest n c (s + b) (keeps d p)) _ λ _. stretch_field x s d b (keeps d p))
    (λ _. ends_any Tags (see_before n c x) _ λ i. eq_case (Ends Tags) i 0 _ _ (λ _. elsewhere_tags n c p a x s d 0 b)
    (λ _. le_case (Ends Tags) (keeps (place a (x - i)) p) (i + (s + b)) _ _
    (λ _. ends_any Tags (see_rest n c (i + (s + b)) (keeps (place a (x - i)) p)) _ λ _. down_field x s d i b (keeps (place a (x - i)) p) (place a (x - i)))
    (λ _. elsewhere_tags n c p a x s d i b)))

pub reallocate_untouched : (n c q p a : ℕ) (m : Memory) {t : Plan} → Gives m (reallocate_script n c q p a) t → Untouched Table (writes t)
unfolding reallocate_script
reallocate_untouched n c q p a m {t} g =
    let i = inv_bind m (see_owner n q) _ g in
    let j = inv_bind m (see_guard i.0.at) _ i.2 in
    let s = resize_script n c q p a i.0.at i.0.grains (q - 2 * i.0.at) in
    let k = inv_bind m s _ j.2 in
    subst (λ (t : Plan). Untouched Table (writes t)) (plan_checked m k.0 k.2)
    (deed_untouched m k.0 (ends_gives Tags m s (resize_tags n c q p a i.0.at i.0.grains (q - 2 * i.0.at)) k.1))

-- so it is afterwards as it was
pub allocate_table : (n c p a : ℕ) (m : Memory) (t : Plan) → Gives m (allocate_script n c p a) t → after m t Table ≡ m Table
allocate_table n c p a m t g = apply_untouched m (writes t) Table (allocate_untouched n c p a m g)

pub deallocate_table : (n c q : ℕ) (m : Memory) (t : Plan) → Gives m (deallocate_script n c q) t → after m t Table ≡ m Table
deallocate_table n c q m t g = apply_untouched m (writes t) Table (deallocate_untouched n c q m g)

pub reallocate_table : (n c q p a : ℕ) (m : Memory) (t : Plan) → Gives m (reallocate_script n c q p a) t → after m t Table ≡ m Table
reallocate_table n c q p a m t g = apply_untouched m (writes t) Table (reallocate_untouched n c q p a m g)

-- ---- a region

pub region_table : (most behind n c g len : ℕ) (m : Memory) (t : Plan) → Gives m (region_script most behind n c g len) t → after m t Table 0 ≡ suc (m Table 0)
unfolding region_script
region_table most behind n c g len m t h =
    let i0 = inv_bind m (if_eq (m Table 0) most (stop 6) (done (tt {0}))) _ (inv_get m Table 0 _ h) in
    let i1 = inv_bind m (unless_le 4 2 len) _ i0.2 in
    let i2 = inv_bind m (unless_le 4 (g + len) n) _ i1.2 in
    let i3 = inv_bind m (must_le (m Table 0) most) _ i2.2 in
    let i4 = inv_bind m (see_regions n g len (m Table 0) 0 nothing_seen) _ i3.2 in
    let i5 = inv_bind m (unless_le 4 behind i4.0.meets) _ i4.2 in
    let i6 = inv_bind m (must_eq i4.0.wrong 0) _ i5.2 in
    let i7 = inv_bind m (see_pieces n c len) _ i6.2 in
    let d = region_deed c (m Table 0) g len in
    let w = lay_tags c len g len in
    let e = entry_writes (m Table 0) g (g + (len - lay_over c len len)) in
    subst (λ (t : Plan). after m t Table 0 ≡ suc (m Table 0)) (plan_checked m d i7.2)
    (ap (λ (f : ℕ → ℕ). f 0) (after_records m d Table (inr refl)) ∙ ap (λ (u : Memory). u Table 0) (apply_append m w e) ∙ upd_same _ 0 (suc (m Table 0)) 0 refl)
