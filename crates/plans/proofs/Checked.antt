-- What follows from specs/Checked.antt.
use Rattle.std.specs.Prelude.{ℕ, suc, ◌+◌, ◌-◌, ◌*◌, ◌/◌, ◌%◌, ◌≤◌, ◌<◌, ◌≡◌, ◌⊎◌}
use Rattle.std.proofs.Common.{arith, ap, ◌∙◌}
use Rattle.std.proofs.Math.Path.{refl, sym, subst}
use Rattle.std.proofs.Math.Logic.{inl, inr, ⊎_elim}
use Rattle.choice.specs.Choice.{if_eq}
use Rattle.class.specs.Class.{list_of}
use Rattle.script.specs.Memory.{Memory, Next, Prev, Mark}
use Rattle.script.specs.Script.{unless_eq, unless_le, must_eq, must_le, Gives}
use Rattle.script.proofs.Script.{inv_bind, inv_get, inv_done, inv_eq, inv_le}
use Rattle.sound.proofs.Inverted.{inv_if_eq}
use Rattle.machine.specs.Machine.{guard_next}
use Rattle.tags.specs.Tag.{Tag, flags, START, FREE, SMALL, LARGE, free_tag}
use Rattle.chains.specs.Links.{Head}
use Rattle.chains.specs.Closed.{Headed}
use Rattle.plans.specs.Checks.{must_grain, must_list, must_be, must_busy, must_free, see_free, see_entry, see_head, see_guard, Owner, owned, owner_small, owner_wide, owner_large, see_owner, free_after, see_after, free_before, see_before, see_rest, see_join}
use Rattle.plans.specs.Checked.{StartsFree, FreeTag, WholeFree, EntryChecked, GuardStands}

module _ (m : Memory) where
  be_checked : (f x y : ℕ) {u : Unit {0}} → Gives m (must_be f x y) u → m f x ≡ y
  be_checked f x y h = inv_eq m 5 (m f x) y (inv_get m f x _ h)

  module _ (n : ℕ) where
    pub free_checked : (x : ℕ) {s : ℕ} → Gives m (must_free n x) s → StartsFree n m x s
    unfolding must_free
    free_checked x {s} h =
        let a = inv_bind m (must_grain n x) _ h in
        let b = inv_bind m (must_eq (m Tag x % flags) (START + FREE)) _ (inv_get m Tag x _ a.2) in
        let d = inv_bind m (must_le 1 (m Tag x / flags)) _ b.2 in
        let e : m Tag x / flags ≡ s = inv_done m _ _ d.2 in
        record {
          inside = omega (arith, inv_le m 5 (suc x) n a.1);
          some = omega (arith, inv_le m 5 1 (m Tag x / flags) d.1);
          tag = omega (arith, inv_eq m 5 (m Tag x % flags) (START + FREE) b.1);
        }

    pub whole_checked : (x : ℕ) {s : ℕ} → Gives m (see_free n x) s → WholeFree n m x s
    unfolding see_free
    whole_checked x {s} h =
        let a = inv_bind m (must_free n x) _ h in
        let b = inv_bind m (must_grain n (x + a.0)) _ a.2 in
        let d = inv_bind m (must_eq (m Tag (x + a.0 - 1) % START) FREE) _ (inv_get m Tag (x + a.0 - 1) _ b.2) in
        let e = inv_bind m (must_eq (m Tag (x + a.0 - 1) / flags) a.0) _ d.2 in
        let f = inv_bind m (must_busy (m Tag (x + a.0))) _ (inv_get m Tag (x + a.0) _ e.2) in
        let g = inv_bind m (must_le START (m Tag (x + a.0) % flags)) _ f.1 in
        subst (WholeFree n m x) (inv_done m _ _ f.2) (record {
          starts = free_checked x a.1;
          ends = omega (arith, inv_le m 5 (suc (x + a.0)) n b.1);
          foot = (inv_eq m 5 _ _ d.1, inv_eq m 5 _ _ e.1);
          after = (inv_le m 5 _ _ g.1, inv_le m 5 _ _ g.2);
        })

    pub entry_checked : (k y : ℕ) {u : Unit {0}} → Gives m (see_entry n k y) u → EntryChecked n m k y
    unfolding see_entry
    entry_checked k y h =
        let a = inv_bind m (must_free n (m Next y)) _ (inv_get m Prev y _ (inv_get m Next y _ h)) in
        let b = inv_bind m (must_be Prev (m Next y) (if_eq (m Next y) y (m Prev y) y)) _ a.2 in
        let d = inv_bind m (must_free n (m Prev y)) _ b.2 in
        let e = inv_bind m (must_be Next (m Prev y) (if_eq (m Prev y) y (m Next y) y)) _ d.2 in
        let f = inv_bind m (must_be Mark k 1) _ e.2 in
        record {
          next = (a.0, free_checked (m Next y) a.1);
          prev = (d.0, free_checked (m Prev y) d.1);
          next_back = be_checked Prev (m Next y) _ b.1;
          prev_back = be_checked Next (m Prev y) _ e.1;
          mark = be_checked Mark k 1 f.1;
          head = inv_eq m 5 _ _ (inv_get m Head k _ f.2);
        }

    pub head_checked : (k : ℕ) {u : Unit {0}} → Gives m (see_head n k) u → Headed (FreeTag n m) m k
    unfolding see_head
    head_checked k h = ⊎_elim
        (λ i. inl i.0)
        (λ i. let a = inv_bind m (must_free n (m Head k)) _ i.1 in inr (a.0, free_checked (m Head k) a.1))
        (inv_if_eq m (m Mark k) 0 _ _ (inv_get m Head k _ (inv_get m Mark k _ h)))

    pub guard_checked : (x : ℕ) {u : Unit {0}} → Gives m (see_guard x) u → GuardStands m x
    unfolding see_guard
    guard_checked x h = let a = inv_bind m (must_be Next x (guard_next x)) _ h in (be_checked Next x _ a.1, be_checked Prev x _ a.2)

    -- ---- t grains

    list_checked : (c s : ℕ) {u : Unit {0}} → Gives m (must_list c s) u → list_of s < 16 * c
    list_checked c s h = omega (arith, inv_le m 5 (suc (list_of s)) (16 * c) h)

    pub rest_checked : (c t k : ℕ) {u : Unit {0}} → Gives m (see_rest n c t k) u → (list_of t < 16 * c) × ((k ≡ t → ⊥) → Headed (FreeTag n m) m (list_of (t - k)))
    unfolding see_rest
    rest_checked c t k h =
        let a = inv_bind m (must_list c t) _ h in
        (list_checked c t a.1, λ e. ⊎_elim (λ i. absurd (e i.0)) (λ i. head_checked (list_of (t - k)) i.1) (inv_if_eq m k t _ _ a.2))

    pub join_checked : (c t : ℕ) {u : Unit {0}} → Gives m (see_join n c t) u → (list_of t < 16 * c) × Headed (FreeTag n m) m (list_of t)
    unfolding see_join
    join_checked c t h = let a = inv_bind m (must_list c t) _ h in (list_checked c t a.1, head_checked (list_of t) a.2)

    -- ---- the neighbours

    -- a free block of s grains at y, in its list
    pub record ListedFree (c y s : ℕ) : Type 0 where
      pub starts : StartsFree n m y s
      pub ends : y + s < n
      pub list : list_of s < 16 * c
      pub entry : EntryChecked n m (list_of s) y

    pub after_checked : (c y : ℕ) {b : ℕ} → Gives m (see_after n c y) b
        → (y < n) × (((m Tag y % flags ≡ START + FREE) × ListedFree c y b) ⊎ ((m Tag y % flags ≡ START + FREE → ⊥) × (b ≡ 0)))
    unfolding see_after
    after_checked c y {b} h =
        let a = inv_bind m (must_grain n y) _ h in (
          omega (arith, inv_le m 5 (suc y) n a.1),
          ⊎_elim
              (λ i. inl (i.0, some i.1))
              (λ i. let d = inv_bind m (must_busy (m Tag y)) _ i.1 in inr (i.0, sym (inv_done m 0 b d.2)))
              (inv_if_eq m (m Tag y % flags) (START + FREE) _ _ (inv_get m Tag y _ a.2)),
        )
      where
        some : Gives m (free_after n c y) b → ListedFree c y b
        some g =
            let d = inv_bind m (see_free n y) _ g in
            let e = inv_bind m (must_list c d.0) _ d.2 in
            let f = inv_bind m (see_entry n (list_of d.0) y) _ e.2 in
            let w = whole_checked y d.1 in
            subst (ListedFree c y) (inv_done m _ _ f.2) (record {
              starts = w.starts;
              ends = w.ends;
              list = list_checked c d.0 e.1;
              entry = entry_checked (list_of d.0) y f.1;
            })

    pub before_checked : (c x : ℕ) → x < n → {a : ℕ} → Gives m (see_before n c x) a
        → ((1 ≤ x) × (m Tag (x - 1) % START ≡ FREE) × (m Tag (x - 1) / flags ≡ a) × (a ≤ x) × ListedFree c (x - a) a) ⊎ (((x ≡ 0) ⊎ (m Tag (x - 1) % START ≡ FREE → ⊥)) × (a ≡ 0))
    unfolding see_before
    before_checked c x near {a} h = ⊎_elim
        (λ i. inr (inl i.0, sym (inv_done m 0 a i.1)))
        (λ i. ⊎_elim
        (λ j. let w = some j.1 in inl (omega (arith, i.0), j.0, w.0, w.1, w.2))
        (λ j. inr (inr j.0, sym (inv_done m 0 a j.1)))
        (inv_if_eq m (m Tag (x - 1) % START) FREE _ _ (inv_get m Tag (x - 1) _ i.1)))
        (inv_if_eq m x 0 _ _ h)
      where
        some : Gives m (free_before n c x (m Tag (x - 1) / flags)) a → (m Tag (x - 1) / flags ≡ a) × (a ≤ x) × ListedFree c (x - a) a
        some g =
            let s = m Tag (x - 1) / flags in
            let b = inv_bind m (must_le 1 s) _ g in
            let d = inv_bind m (must_le s x) _ b.2 in
            let e = inv_bind m (must_be Tag (x - s) (free_tag s)) _ d.2 in
            let f = inv_bind m (must_list c s) _ e.2 in
            let k = inv_bind m (see_entry n (list_of s) (x - s)) _ f.2 in
            let one = inv_le m 5 1 s b.1 in
            let low = inv_le m 5 s x d.1 in
            subst (λ (a : ℕ). (m Tag (x - 1) / flags ≡ a) × (a ≤ x) × ListedFree c (x - a) a) (inv_done m _ _ k.2) (
              refl,
              low,
              record {
                starts = record { inside = omega arith; some = one; tag = be_checked Tag (x - s) (free_tag s) e.1 };
                ends = omega arith;
                list = list_checked c s f.1;
                entry = entry_checked (list_of s) (x - s) k.1;
              },
            )

    -- ---- the block of a payload

    -- the three kinds
    pub data Owns (q : ℕ) (o : Owner) : Type 0 where
      small : q ≡ 2 * o.at + 1 → m Tag o.at % flags ≡ START + SMALL → m Tag o.at / flags ≡ o.grains → Owns q o
      large : q ≡ 2 * o.at + 2 → m Tag o.at % flags ≡ START + LARGE → m Tag o.at / flags ≡ o.grains → Owns q o
      wide : (p : ℕ) → q ≡ 2 * o.at + 2 * p → 2 ≤ p → p ≤ o.grains → m Tag (o.at + p - 1) % flags ≡ LARGE → m Tag (o.at + p - 1) / flags ≡ p
          → m Tag o.at % flags ≡ START → m Tag o.at / flags ≡ o.grains → Owns q o

    pub record OwnerChecked (q : ℕ) (o : Owner) : Type 0 where
      pub some : 1 ≤ o.grains
      pub ends : o.at + o.grains < n
      pub below : q < 2 * n
      pub kind : Owns q o

    owned_checked : (x s p : ℕ) {o : Owner} → Gives m (owned n x s p) o → (1 ≤ s) × (p ≤ s) × (x + s < n) × (record { at = x; grains = s } ≡ o)
    owned_checked x s p {o} h =
        let a = inv_bind m (must_le 1 s) _ h in
        let b = inv_bind m (must_le p s) _ a.2 in
        let d = inv_bind m (must_grain n (x + s)) _ b.2 in
        (inv_le m 5 1 s a.1, inv_le m 5 p s b.1, omega (arith, inv_le m 5 (suc (x + s)) n d.1), inv_done m _ o d.2)

    pub owner_checked : (q : ℕ) {o : Owner} → Gives m (see_owner n q) o → OwnerChecked q o
    unfolding see_owner
    owner_checked q {o} h =
        let i = inv_bind m (unless_le 3 (suc q) (2 * n)) _ h in
        let low : q < 2 * n = omega (arith, inv_le m 3 (suc q) (2 * n) i.1) in
        ⊎_elim (λ j. in_middle low j.0 j.1) (λ j. at_grain low (omega (arith, j.0)) j.1) (inv_if_eq m (q % 2) 1 _ _ i.2)
      where
        in_middle : q < 2 * n → q % 2 ≡ 1 → Gives m (owner_small n (q / 2)) o → OwnerChecked q o
        in_middle low odd g =
            let b = inv_bind m (unless_eq 3 (m Tag (q / 2) % flags) (START + SMALL)) _ (inv_get m Tag (q / 2) _ g) in
            let d = owned_checked (q / 2) (m Tag (q / 2) / flags) 0 b.2 in
            subst (OwnerChecked q) d.3 (record { some = d.0; ends = d.2; below = low; kind = small (omega arith) (inv_eq m 3 _ _ b.1) refl })

        far : q < 2 * n → q % 2 ≡ 0 → 1 ≤ q / 2 → (v : ℕ) → m Tag (q / 2 - 1) ≡ v → Gives m (owner_wide n (q / 2) v) o → OwnerChecked q o
        far low even some v ev g =
            let b = inv_bind m (unless_eq 3 (v % flags) LARGE) _ g in
            let d = inv_bind m (must_le 2 (v / flags)) _ b.2 in
            let e = inv_bind m (must_le (v / flags) (q / 2)) _ d.2 in
            let x = q / 2 - v / flags in
            let f = inv_bind m (must_eq (m Tag x % flags) START) _ (inv_get m Tag x _ e.2) in
            let w = owned_checked x (m Tag x / flags) (v / flags) f.2 in
            let two = inv_le m 5 2 (v / flags) d.1 in
            let near = inv_le m 5 (v / flags) (q / 2) e.1 in
            let z : x + v / flags - 1 ≡ q / 2 - 1 = omega arith in
            let t : m Tag (x + v / flags - 1) ≡ v = ap (m Tag) z ∙ ev in
            subst (OwnerChecked q) w.3 (record {
              some = w.0;
              ends = w.2;
              below = low;
              kind = wide (v / flags) (omega arith) two w.1 (ap (λ (u : ℕ). u % flags) t ∙ inv_eq m 3 _ _ b.1) (ap (λ (u : ℕ). u / flags) t) (inv_eq m 5 _ _ f.1) refl;
            })

        at_grain : q < 2 * n → q % 2 ≡ 0 → Gives m (owner_large n (q / 2)) o → OwnerChecked q o
        at_grain low even g =
            let k = inv_bind m (unless_le 3 1 (q / 2)) _ g in
            let some : 1 ≤ q / 2 = inv_le m 3 1 (q / 2) k.1 in
            ⊎_elim
            (λ e. let d = owned_checked (q / 2 - 1) (m Tag (q / 2 - 1) / flags) 1 e.1 in
            subst (OwnerChecked q) d.3 (record { some = d.0; ends = d.2; below = low; kind = large (omega arith) e.0 refl }))
            (λ e. far low even some (m Tag (q / 2 - 1)) refl e.1)
            (inv_if_eq m (m Tag (q / 2 - 1) % flags) (START + LARGE) _ _ (inv_get m Tag (q / 2 - 1) _ k.2))
