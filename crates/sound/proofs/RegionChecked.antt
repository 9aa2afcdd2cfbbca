-- What follows from specs/RegionChecked.antt.
use Prim.Native.Nat.{ℕ, zero, suc, ◌+◌, ◌*◌, ◌≤◌, ◌<◌}
use Rattle.std.proofs.Common.{arith, sym, ⊎_elim}
use Rattle.std.specs.Prelude.{◌≡◌, [], ◌⊎◌}
use Rattle.std.proofs.Math.Path.{subst}
use Rattle.std.proofs.Math.Logic.{inl, inr}
use Rattle.choice.specs.Choice.{if_eq, if_le, eq_case, le_case, le?}
use Rattle.script.specs.Memory.{Memory, Table}
use Rattle.script.specs.Script.{stop, unless_le, must_eq, must_le, Gives}
use Rattle.script.proofs.Script.{inv_bind, inv_get, inv_done, inv_eq, inv_le}
use Rattle.sound.specs.Plans.{Plan}
use Rattle.sound.specs.RegionPlan.{Looked, wrong_of, see_regions, lay_script, region_script}
use Rattle.sound.specs.RegionTable.{first_of, end_of, Off}
use Rattle.sound.proofs.Inverted.{inv_stop, inv_if_eq, inv_if_le}
use Rattle.sound.specs.RegionChecked.{Right, RegionChecked}

-- the regions from i on, r of them: l was known before, and v is known afterwards
record LookedChecked (n g len : ℕ) (m : Memory) (r i : ℕ) (l v : Looked) : Type 0 where
  clear : (j : ℕ) → i ≤ j → j < i + r → Off m g len j
  none : v.wrong ≡ 0 → l.wrong ≡ 0
  right : v.wrong ≡ 0 → (j : ℕ) → i ≤ j → j < i + r → Right n m j
  met : 1 ≤ v.meets → (1 ≤ l.meets) ⊎ ((j : ℕ) × (j < i + r) × (end_of m j ≡ g))

-- an entry that counts as right is
right_checked : (n s e w : ℕ) → wrong_of n s e w ≡ 0 → (s + 2 ≤ e) × (e ≤ n) × (w ≡ 0)
right_checked n s e w =
    le_case (λ u. u ≡ 0 → (s + 2 ≤ e) × (e ≤ n) × (w ≡ 0)) (s + 2) e _ _
    (λ a. le_case (λ u. u ≡ 0 → (s + 2 ≤ e) × (e ≤ n) × (w ≡ 0)) e n w 1 (λ b h. (a, b, h)) (λ b h. absurd (omega arith)))
    (λ a h. absurd (omega arith))

module _ (n g len : ℕ) (m : Memory) where
  -- the table was looked through
  looked_checked : (r i : ℕ) (l v : Looked) → Gives m (see_regions n g len r i l) v → LookedChecked n g len m r i l v
  unfolding see_regions
  looked_checked zero i l v h = subst (LookedChecked n g len m 0 i l) (inv_done m l v h) (record {
    clear = λ j a b. absurd (omega arith);
    none = λ e. e;
    right = λ e j a b. absurd (omega arith);
    met = λ e. inl e;
  })
  looked_checked (suc r) i l v h = let k = inv_bind m (if_le (end_of m i) g _ _) _ (inv_get m Table (2 * i + 2) _ (inv_get m Table (2 * i + 1) _ h)) in
      go (⊎_elim (λ a. inl a.0) (λ a. inr (inv_le m 4 (g + len) (first_of m i) a.1)) (inv_if_le m (end_of m i) g _ _ k.1)) (looked_checked r (suc i) _ v k.2)
    where
      next : Looked
      next = record { meets = if_eq (end_of m i) g 1 l.meets; wrong = wrong_of n (first_of m i) (end_of m i) l.wrong }

      -- this one or a later one
      each : (P : ℕ → Type 0) → P i → ((j : ℕ) → suc i ≤ j → j < suc i + r → P j) → (j : ℕ) → i ≤ j → j < i + suc r → P j
      each P a b j p q = ⊎_elim (λ (e : j ≤ i). subst P (omega arith) a) (λ (e : i < j). b j (omega arith) (omega arith)) (le? j i)

      go : Off m g len i → LookedChecked n g len m r (suc i) next v → LookedChecked n g len m (suc r) i l v
      go a b = record {
        clear = each (Off m g len) a b.clear;
        none = λ e. (right_checked n (first_of m i) (end_of m i) l.wrong (b.none e)).2;
        right = λ e. let f = right_checked n (first_of m i) (end_of m i) l.wrong (b.none e) in each (Right n m) (f.0, f.1) (b.right e);
        met = λ e. ⊎_elim (λ (h : 1 ≤ next.meets). here h) (λ (h : (j : ℕ) × (j < suc i + r) × (end_of m j ≡ g)). inr (h.0, omega (arith, h.1), h.2)) (b.met e);
      }
        where
          here : 1 ≤ if_eq (end_of m i) g 1 l.meets → (1 ≤ l.meets) ⊎ ((j : ℕ) × (j < i + suc r) × (end_of m j ≡ g))
          here = eq_case (λ u. 1 ≤ u → (1 ≤ l.meets) ⊎ ((j : ℕ) × (j < i + suc r) × (end_of m j ≡ g))) (end_of m i) g 1 l.meets
              (λ q h. inr (i, omega arith, q)) (λ q h. inl h)

-- the region that is taken in
pub region_checked : (most behind n c g len : ℕ) (m : Memory) (t : Plan) → Gives m (region_script most behind n c g len) t → RegionChecked most behind n c g len m t
unfolding region_script
region_checked most behind n c g len m t h =
    let r = m Table 0 in
    let i0 = inv_bind m (if_eq r most (stop 6) _) _ (inv_get m Table 0 _ h) in
    let i1 = inv_bind m (unless_le 4 2 len) _ i0.2 in
    let i2 = inv_bind m (unless_le 4 (g + len) n) _ i1.2 in
    let i3 = inv_bind m (must_le r most) _ i2.2 in
    let i4 = inv_bind m (see_regions n g len r 0 (record { meets = 0; wrong = 0 })) _ i3.2 in
    let i5 = inv_bind m (unless_le 4 behind i4.0.meets) _ i4.2 in
    let i6 = inv_bind m (must_eq i4.0.wrong 0) _ i5.2 in
    let i7 = inv_bind m (lay_script n c len [] g len) _ i6.2 in
    let ne : r ≡ most → ⊥ = ⊎_elim (λ a. absurd (inv_stop m 6 a.1)) (λ a. a.0) (inv_if_eq m r most _ _ i0.1) in
    let l = looked_checked n g len m r 0 (record { meets = 0; wrong = 0 }) i4.0 i4.1 in
    let e = inv_eq m 5 i4.0.wrong 0 i6.1 in
    record {
      w = i7.0;
      spare = omega (arith, ne, inv_le m 5 r most i3.1);
      long = inv_le m 4 2 len i1.1;
      inside = inv_le m 4 (g + len) n i2.1;
      right = λ j a. l.right e j (omega arith) (omega arith);
      clear = λ j a. l.clear j (omega arith) (omega arith);
      follows = λ b. met behind i4.0 l (inv_le m 4 behind i4.0.meets i5.1) b;
      laid = i7.1;
      plan = sym (inv_done m _ t i7.2);
    }
  where
    met : (b : ℕ) (v : Looked) → LookedChecked n g len m (m Table 0) 0 (record { meets = 0; wrong = 0 }) v → b ≤ v.meets → 1 ≤ b → (j : ℕ) × (j < m Table 0) × (end_of m j ≡ g)
    met b v l a p = ⊎_elim (λ (q : 1 ≤ 0). absurd (omega arith)) (λ (q : (j : ℕ) × (j < 0 + m Table 0) × (end_of m j ≡ g)). (q.0, omega (arith, q.1), q.2)) (l.met (omega arith))
