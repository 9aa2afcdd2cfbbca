-- What insert and append record, on any slices: the region's first grain, and its end, which the answer tells in bytes.
use Rattle.std.specs.Prelude.{ℕ, suc, ◌+◌, ◌-◌, ◌*◌, ◌/◌, ◌%◌, ◌≤◌, ◌≡◌, refl}
use Rattle.std.proofs.Common.{arith, ap, sym, ◌∙◌, subst, inr}
use Rattle.choice.specs.Choice.{if_eq, eq_case, upd_same, upd_other}
use Rattle.table.specs.Table.{entry}
use Rattle.definition.specs.Units.{first_grain, whole_grains}
use Rattle.script.specs.Memory.{Memory, Table, apply}
use Rattle.script.proofs.Memory.{apply_append}
use Rattle.script.specs.Script.{done, stop, ok, unless_le, must_eq, must_le, Gives}
use Rattle.script.proofs.Script.{inv_bind, inv_get, inv_le}
use Rattle.sound.specs.RegionPlan.{see_regions, entry_writes}
use Rattle.machine.specs.Machine.{half, grain, classes}
use Rattle.plans.specs.Deeds.{Plan, plan_of, after}
use Rattle.plans.proofs.Planned.{plan_checked}
use Rattle.plans.specs.Regions.{lay_tags, lay_over, region_deed, see_pieces, region_script}
use Rattle.plans.specs.Calls.{Call, Insert, Append, Fair}
use Rattle.armour.proofs.Turns.{after_records}
use Rattle.armour.specs.Inserts.{nothing_seen}
use Rattle.refines.specs.Runs.{Reply, yes}
use Rattle.lent.specs.Slices.{Slices, memory_of}
use Rattle.lent.proofs.Fields.{memory_table}
use Rattle.promises.specs.Bytes.{insert, append, following, Asks, give, follow}
use Rattle.promises.specs.Performs.{grains_of, most_of, Sized, outcome, stored, Performs, early, refused, granted}
use Rattle.promises.specs.Terms.{Recorded}
use Rattle.promises.specs.Storable.{LongFor}
use Rattle.promises.proofs.Storable.{stored_field}

-- ---- on any memory

record Listed (m : Memory) (g len : ℕ) (t : Plan) : Type 0 where
  two : 2 ≤ len
  few : t.answer ≤ len
  count : after m t Table 0 ≡ suc (m Table 0)
  first : after m t Table (2 * m Table 0 + 1) ≡ g
  end : after m t Table (2 * m Table 0 + 2) ≡ g + t.answer

deed_listed : (c g len : ℕ) (m : Memory) → 2 ≤ len → Listed m g len (plan_of m (region_deed c (m Table 0) g len))
deed_listed c g len m two =
    let r = m Table 0 in
    let e = g + (len - lay_over c len len) in
    let w = lay_tags c len g len in
    let is : (y : ℕ) → after m (plan_of m (region_deed c r g len)) Table y ≡ apply (apply m w) (entry_writes r g e) Table y =
    λ y. ap (λ (f : ℕ → ℕ). f y) (after_records m (region_deed c r g len) Table (inr refl)) ∙ ap (λ (u : Memory). u Table y) (apply_append m w (entry_writes r g e)) in
    record {
      two = two;
      few = omega arith;
      count = is 0 ∙ upd_same _ 0 (suc r) 0 refl;
      first = is (2 * r + 1) ∙ upd_other _ 0 (suc r) (2 * r + 1) (λ q. omega arith) ∙ upd_other _ (2 * r + 2) e (2 * r + 1) (λ q. omega arith) ∙ upd_same _ (2 * r + 1) g (2 * r + 1) refl;
      end = is (2 * r + 2) ∙ upd_other _ 0 (suc r) (2 * r + 2) (λ q. omega arith) ∙ upd_same _ (2 * r + 2) e (2 * r + 2) refl;
    }

region_listed : (most behind n c g len : ℕ) (m : Memory) (t : Plan) → Gives m (region_script most behind n c g len) t → Listed m g len t
unfolding region_script
region_listed most behind n c g len m t h =
    let i0 = inv_bind m (if_eq (m Table 0) most (stop 6) (done (tt {0}))) _ (inv_get m Table 0 _ h) in
    let i1 = inv_bind m (unless_le 4 2 len) _ i0.2 in
    let i2 = inv_bind m (unless_le 4 (g + len) n) _ i1.2 in
    let i3 = inv_bind m (must_le (m Table 0) most) _ i2.2 in
    let i4 = inv_bind m (see_regions n g len (m Table 0) 0 nothing_seen) _ i3.2 in
    let i5 = inv_bind m (unless_le 4 behind i4.0.meets) _ i4.2 in
    let i6 = inv_bind m (must_eq i4.0.wrong 0) _ i5.2 in
    let i7 = inv_bind m (see_pieces n c len) _ i6.2 in
    subst (Listed m g len) (plan_checked m (region_deed c (m Table 0) g len) i7.2) (deed_listed c g len m (inv_le m 4 2 len i1.1))

-- ---- on slices

module _ (S : Slices) (z : Sized S) (K : Call) (t : Plan) (l : LongFor S K) (fair : Fair K) (e : outcome S K ≡ ok t) (g len b v : ℕ) (k : Listed (memory_of S) g len t) where
  in_table : (y : ℕ) → entry (stored S K t).regions y ≡ after (memory_of S) t Table y
  in_table y = sym (memory_table (stored S K t) y) ∙ ap (λ (f : ℕ → ℕ). f y) (stored_field S z K t l fair e Table (omega arith, omega arith))

  recorded : grain * (g + t.answer) ≡ b + v → Recorded S (stored S K t) g b v
  recorded q =
      let r : memory_of S Table 0 ≡ entry S.regions 0 = memory_table S 0 in
      record {
        count = in_table 0 ∙ k.count ∙ ap suc r;
        first = in_table _ ∙ ap (λ (i : ℕ). after (memory_of S) t Table (2 * i + 1)) (sym r) ∙ k.first;
        end = ap (λ (i : ℕ). grain * i) (in_table _ ∙ ap (λ (i : ℕ). after (memory_of S) t Table (2 * i + 2)) (sym r) ∙ k.end) ∙ q;
      }

pub insert_recorded : (S : Slices) (b n : ℕ) (r : Reply) (T : Slices) → Sized S → Performs S (insert b n) r T → (v : ℕ) → r ≡ yes v → (v ≤ n) × Recorded S T (first_grain half b) b v
insert_recorded S b n r T z (early i a) v e = let y : ◌≡◌ {A = ℕ} 0 1 = cc in absurd (omega arith)
insert_recorded S b n r T z (refused K i g f) v e = let y : ◌≡◌ {A = ℕ} 0 1 = cc in absurd (omega arith)
insert_recorded S b n r T z (granted K t g f) v e = let u : grain * first_grain half b - b + grain * t.answer ≡ v = cc in go K g.asks f u
  where
    go : (K : Call) → Asks (insert b n) K → outcome S K ≡ ok t → grain * first_grain half b - b + grain * t.answer ≡ v → (v ≤ n) × Recorded S (stored S K t) (first_grain half b) b v
    go K give f u =
        let x = first_grain half b in
        let len = whole_grains half b n in
        let k = region_listed (most_of S) 0 (grains_of S) classes x len (memory_of S) t f in
        (omega (arith, k.two, k.few), recorded S z (Insert x len) t g.long tt f x len b v k (omega arith))

-- the grains that follow a region
following_is : (b n : ℕ) → 2 ≤ following b n → (b % grain ≡ 0) × (following b n ≡ n / grain)
following_is b n = eq_case (λ (i : ℕ). 2 ≤ i → (b % grain ≡ 0) × (i ≡ n / grain)) (b % grain) 0 (n / grain) 0 (λ e _. (e, refl)) (λ _ h. absurd (omega arith))

pub append_recorded : (S : Slices) (b n : ℕ) (r : Reply) (T : Slices) → Sized S → Performs S (append b n) r T → (v : ℕ) → r ≡ yes v → (v ≤ n) × Recorded S T (b / grain) b v
append_recorded S b n r T z (early i a) v e = let y : ◌≡◌ {A = ℕ} 0 1 = cc in absurd (omega arith)
append_recorded S b n r T z (refused K i g f) v e = let y : ◌≡◌ {A = ℕ} 0 1 = cc in absurd (omega arith)
append_recorded S b n r T z (granted K t g f) v e = let u : grain * t.answer ≡ v = cc in go K g.asks f u
  where
    go : (K : Call) → Asks (append b n) K → outcome S K ≡ ok t → grain * t.answer ≡ v → (v ≤ n) × Recorded S (stored S K t) (b / grain) b v
    go K follow f u =
        let x = b / grain in
        let len = following b n in
        let k = region_listed (most_of S) 1 (grains_of S) classes x len (memory_of S) t f in
        let w = following_is b n k.two in
        (omega (arith, w.1, k.few), recorded S z (Append x len) t g.long tt f x len b v k (omega (arith, w.0)))
