-- What follows from specs/Changes.antt.
use Rattle.std.specs.Prelude.{ℕ, suc, ◌+◌, ◌-◌, ◌/◌, ◌≤◌, ◌<◌, ◌≡◌, refl, List, [], ◌∷◌, ◌⊎◌}
use Rattle.std.proofs.Common.{arith, add-zero, zero-add, ap, sym, ◌∙◌, subst, inl, inr, ⊎_elim}
use Rattle.choice.specs.Choice.{eq_yes, eq_no, same?, le?, upd, upd_same, upd_other}
use Rattle.definition.specs.Blocks.{Block, free, used, last, gap, size, total, ◌⟨⟩◌, room, past}
use Rattle.definition.specs.Lists.{Lists}
use Rattle.definition.specs.Calls.{Heap, leave}
use Rattle.invariants.specs.Order.{out, busy, Inside, Ordered, OrderedL, order_split}
use Rattle.invariants.proofs.Neighbours.{total_past, wider}
use Rattle.tags.specs.Tag.{Laid, Tagged}
use Rattle.tags.proofs.Tagged.{tagged_split, tagged_join, tagged_keep, tagged_l_keep}
use Rattle.tags.specs.Stamps.{Padded, Bare, Outside, clear_free, clear_pad, lay_pad, lay_first, lay_free, split_stamp, clear_after, clear_before, clear_used, clear_room, allocate_stamp, deallocate_stamp, stretch_stamp, down_stamp}
use Rattle.tags.proofs.Stamps.{clear_free_keep, lay_free_keep, lay_first_keep, clear_pad_keep, lay_pad_keep, free_hollow, hollow_bare, used_padded, used_bare, bare_padded, padded_laid, hollow_laid, bare_hollow, bare_rest, bare_keep, hollow_after, hollow_before}
use Rattle.tags.specs.Changes.{Around, Core}

-- ---- k grains between the blocks l and r, whatever blocks they are

pub around_keep : (t u : ℕ → ℕ) (l : List Block) (k : ℕ) (r : List Block) → ((y : ℕ) → Outside (total l) k y → u y ≡ t y) → Around t l k r → Around u l k r
around_keep t u l k r f c = record {
  left = tagged_l_keep t u l (λ y h. f y (inl h)) c.left;
  right = tagged_keep t u (total l + k) r (λ y h. f y (inr h)) c.right;
}

pub around_one : (t : ℕ → ℕ) (l r : List Block) (b : Block) → Tagged t 0 (l ⟨⟩ b ∷ r) → Around t l (size b) r × Laid t (total l) b
around_one t l r b h = let i = tagged_split t l (b ∷ r) h in (record { left = i.0; right = i.1.1 }, i.1.0)

pub one_around : (t : ℕ → ℕ) (l r : List Block) (b : Block) → Around t l (size b) r → Laid t (total l) b → Tagged t 0 (l ⟨⟩ b ∷ r)
one_around t l r b c h = tagged_join t l (b ∷ r) c.left (h, c.right)

-- ---- k of s blank grains become a used block, and the rest a free one

leave_all : (g : Lists) (l r : List Block) (s k d : ℕ) → k ≡ s → (leave g l r s k d).blocks ≡ l ⟨⟩ used s d ∷ r
unfolding leave
leave_all g l r s k d e = ap (λ (h : Heap). h.blocks) (eq_yes k s _ _ e)

leave_some : (g : Lists) (l r : List Block) (s k d : ℕ) → (k ≡ s → ⊥) → (leave g l r s k d).blocks ≡ l ⟨⟩ used k d ∷ free (s - k) ∷ r
unfolding leave
leave_some g l r s k d n = ap (λ (h : Heap). h.blocks) (eq_no k s _ _ n)

module _ (t : ℕ → ℕ) (g : Lists) (l r : List Block) (s k d : ℕ) (c : Around t l s r) (p : 1 ≤ k) (q : k ≤ s) where
  -- the first k are padded already
  pub split_stamp_lem : Padded t (total l) k d → Bare t (total l + k) (s - k) → Tagged (split_stamp t (total l) s k d) 0 (leave g l r s k d).blocks
  split_stamp_lem h b = ⊎_elim
      (λ (e : k ≡ s). rw (eq_yes k s (lay_first t (total l) k d) (lay_free (lay_first t (total l) k d) (total l + k) (s - k)) e, leave_all g l r s k d e) (whole e))
      (λ (n : k ≡ s → ⊥). rw (eq_no k s (lay_first t (total l) k d) (lay_free (lay_first t (total l) k d) (total l + k) (s - k)) n, leave_some g l r s k d n) (parts n))
      (same? k s)
    where
      whole : k ≡ s → Tagged (lay_first t (total l) k d) 0 (l ⟨⟩ used s d ∷ r)
      whole e = subst (λ (u : ℕ). Tagged (lay_first t (total l) k d) 0 (l ⟨⟩ used u d ∷ r)) e
          (one_around _ l r (used k d) (around_keep t _ l k r (λ y o. lay_first_keep t (total l) k p y o d) (subst (λ (u : ℕ). Around t l u r) (sym e) c)) (padded_laid t (total l) k d h))

      parts : (k ≡ s → ⊥) → Tagged (lay_free (lay_first t (total l) k d) (total l + k) (s - k)) 0 (l ⟨⟩ used k d ∷ free (s - k) ∷ r)
      parts n =
          let x = total l in
          let u = lay_first t x k d in
          let v = lay_free u (x + k) (s - k) in
          let some : 1 ≤ s - k = omega (arith, n) in
          let e : x + s ≡ x + k + (s - k) = omega arith in
          let far : (y : ℕ) → (y < x) ⊎ (x + s ≤ y) → v y ≡ t y = λ y o.
          lay_free_keep u (x + k) (s - k) some y (⊎_elim (λ (a : y < x). inl (omega arith)) (λ (a : x + s ≤ y). inr (omega arith)) o)
          ∙ lay_first_keep t x k p y (⊎_elim (λ (a : y < x). inl a) (λ (a : x + s ≤ y). inr (omega arith)) o) d in
          let w = around_keep t v l s r far c in
          tagged_join v l (used k d ∷ free (s - k) ∷ r) w.left (
            (λ i a. lay_free_keep u (x + k) (s - k) some (x + i) (inl (omega arith)) ∙ padded_laid t x k d h i a),
            (
              hollow_laid u (x + k) (s - k) (bare_hollow u (x + k) (s - k) (bare_keep t u (x + k) (s - k) (λ y a z. lay_first_keep t x k p y (inr a) d) b)),
              subst (λ (y : ℕ). Tagged v y r) e w.right,
            ),
          )

-- ---- s grains of which blocks can be made: those between the first and the last are blank

core_free : (t : ℕ → ℕ) (l r : List Block) (s : ℕ) → 1 ≤ s → Core t l s r → Tagged (lay_free t (total l) s) 0 (l ⟨⟩ free s ∷ r)
core_free t l r s p c = one_around _ l r (free s) (around_keep t _ l s r (λ y o. lay_free_keep t (total l) s p y o) c.around) (hollow_laid t (total l) s c.hollow)

core_allocate : (t : ℕ → ℕ) (g : Lists) (l r : List Block) (s k d : ℕ) → 1 ≤ k → k ≤ s → Inside k d → Core t l s r → Tagged (allocate_stamp t (total l) s k d) 0 (leave g l r s k d).blocks
core_allocate t g l r s k d p q i c =
    let x = total l in
    let u = clear_free t x s in
    let v = lay_pad u x d in
    let bu : Bare u x s = hollow_bare t x s c.hollow in
    split_stamp_lem v g l r s k d
    (around_keep t v l s r (λ y o. lay_pad_keep u x s (omega arith) y o d (wider s q i) ∙ clear_free_keep t x s (omega arith) y o) c.around) p q
    (bare_padded u x k d (λ j a b. bu j a (omega arith)))
    (bare_keep u v (x + k) (s - k) (λ y a b. lay_pad_keep u x k p y (inr a) d i) (bare_rest u x s k p bu))

-- ---- allocate

pub allocate_stamp_lem : (t : ℕ → ℕ) (g : Lists) (l r : List Block) (s k d : ℕ) → 1 ≤ k → k ≤ s → Inside k d → Tagged t 0 (l ⟨⟩ free s ∷ r)
    → Tagged (allocate_stamp t (total l) s k d) 0 (leave g l r s k d).blocks
allocate_stamp_lem t g l r s k d p q i h = let c = around_one t l r (free s) h in core_allocate t g l r s k d p q i (record { around = c.0; hollow = free_hollow t (total l) s c.1 })

-- ---- deallocate: a used block goes, with the free room after it and before it

core_after : (t : ℕ → ℕ) (l r : List Block) (s : ℕ) → 1 ≤ s → Ordered busy r → Around t l s r → Bare t (total l) s → Core (clear_after t (total l + s) (room r)) l (s + room r) (past r)
core_after t l r s p o c h = go r o c
  where
    none : (r : List Block) → Around t l s r → Core (clear_after t (total l + s) 0) l (s + 0) r
    none r c = rw (eq_yes 0 0 t (upd t (total l + s) 0) refl, add-zero s) (record { around = c; hollow = bare_hollow t (total l) s h })

    go : (r : List Block) → Ordered busy r → Around t l s r → Core (clear_after t (total l + s) (room r)) l (s + room r) (past r)
    go [] o c = none [] c
    go (free b ∷ r) o c =
        let x = total l in
        let u = upd t (x + s) 0 in
        let e : x + s + b ≡ x + (s + b) = omega arith in
        rw (eq_no b 0 t u (omega (arith, o.1))) (record {
          around = around_keep t u l (s + b) r (λ y q. upd_other t (x + s) 0 y (⊎_elim (λ (a : y < x). omega arith) (λ (a : x + (s + b) ≤ y). omega (arith, o.1)) q))
              (record { left = c.left; right = subst (λ (y : ℕ). Tagged t y r) e c.right.1 });
          hollow = hollow_after t x s b p h c.right.0;
        })
    go (used b d ∷ r) o c = none (used b d ∷ r) c
    go (last ∷ r) o c = none (last ∷ r) c
    go (gap ∷ r) o c = none (gap ∷ r) c

core_before : (t : ℕ → ℕ) (l r : List Block) (s : ℕ) → 1 ≤ s → OrderedL l → Core t l s r → Core (clear_before t (total l) (room l)) (past l) (room l + s) r
core_before t l r s p o c = go l o c
  where
    none : (l : List Block) → Core t l s r → Core (clear_before t (total l) 0) l (0 + s) r
    none l c = rw (eq_yes 0 0 t (upd (upd t (total l) 0) (total l - 1) 0) refl, zero-add s) c

    go : (l : List Block) → OrderedL l → Core t l s r → Core (clear_before t (total l) (room l)) (past l) (room l + s) r
    go [] o c = none [] c
    go (free a ∷ l) o c =
        let z = total l in
        let u = upd (upd t (z + a) 0) (z + a - 1) 0 in
        let e : z + a + s ≡ z + (a + s) = omega arith in
        rw (eq_no a 0 t u (omega (arith, o.1))) (record {
          around = around_keep t u l (a + s) r
              (λ y q. upd_other _ (z + a - 1) 0 y (⊎_elim (λ (i : y < z). omega (arith, o.1)) (λ (i : z + (a + s) ≤ y). omega (arith, o.1)) q)
              ∙ upd_other t (z + a) 0 y (⊎_elim (λ (i : y < z). omega (arith, o.1)) (λ (i : z + (a + s) ≤ y). omega (arith, o.1)) q))
              (record { left = c.around.left.1; right = subst (λ (y : ℕ). Tagged t y r) e c.around.right });
          hollow = hollow_before t z a s o.1 c.around.left.0 c.hollow;
        })
    go (used b d ∷ l) o c = none (used b d ∷ l) c
    go (last ∷ l) o c = none (last ∷ l) c
    go (gap ∷ l) o c = none (gap ∷ l) c

core_both : (t : ℕ → ℕ) (l r : List Block) (s d : ℕ) → Ordered out (l ⟨⟩ used s d ∷ r) → Tagged t 0 (l ⟨⟩ used s d ∷ r)
    → Core (clear_used t (total l) s d (room l) (room r)) (past l) (room l + (s + room r)) (past r)
core_both t l r s d o h =
    let x = total l in
    let i = order_split l (used s d ∷ r) o in
    let p = i.1.1.0 in
    let c = around_one t l r (used s d) h in
    let u = clear_pad t x d in
    let a = around_keep t u l s r (λ y q. clear_pad_keep t x s p y q d i.1.1.1) c.0 in
    core_before _ l (past r) (s + room r) (omega arith) i.0 (core_after u l r s p i.1.2 a (used_bare t x s d c.1))

pub deallocate_stamp_lem : (t : ℕ → ℕ) (l r : List Block) (s d : ℕ) → Ordered out (l ⟨⟩ used s d ∷ r) → Tagged t 0 (l ⟨⟩ used s d ∷ r)
    → Tagged (deallocate_stamp t (total l) s d (room l) (room r)) 0 (past l ⟨⟩ free (room l + (s + room r)) ∷ past r)
deallocate_stamp_lem t l r s d o h =
    let p = (order_split l (used s d ∷ r) o).1.1.0 in
    let e : total (past l) ≡ total l - room l = omega (arith, total_past l) in
    subst (λ (z : ℕ). Tagged (lay_free (clear_used t (total l) s d (room l) (room r)) z (room l + (s + room r))) 0 (past l ⟨⟩ free (room l + (s + room r)) ∷ past r)) e
    (core_free _ (past l) (past r) (room l + (s + room r)) (omega arith) (core_both t l r s d o h))

-- ---- reallocate downwards: the same, and then as allocate

pub down_stamp_lem : (t : ℕ → ℕ) (g : Lists) (l r : List Block) (s e k d : ℕ) → Ordered out (l ⟨⟩ used s e ∷ r) → 1 ≤ k → k ≤ room l + (s + room r) → Inside k d → Tagged t 0 (l ⟨⟩ used s e ∷ r)
    → Tagged (down_stamp t (total l) s e (room l) (room r) k d) 0 (leave g (past l) (past r) (room l + (s + room r)) k d).blocks
down_stamp_lem t g l r s e k d o p q i h =
    let f : total (past l) ≡ total l - room l = omega (arith, total_past l) in
    subst (λ (z : ℕ). Tagged (allocate_stamp (clear_used t (total l) s e (room l) (room r)) z (room l + (s + room r)) k d) 0 (leave g (past l) (past r) (room l + (s + room r)) k d).blocks) f
    (core_allocate _ g (past l) (past r) (room l + (s + room r)) k d p q i (core_both t l r s e o h))

-- ---- reallocate in place: the free room after the block goes, the payload and its tag stay

stretch_room : (t : ℕ → ℕ) (l r : List Block) (s d : ℕ) → 1 ≤ s → Inside s d → Ordered busy r → Around t l s r → Padded t (total l) s d
    → Around (clear_room t (total l + s) (room r)) l (s + room r) (past r) × Padded (clear_room t (total l + s) (room r)) (total l) (s + room r) d
stretch_room t l r s d p v o c h = go r o c
  where
    none : (r : List Block) → Around t l s r → Around (clear_room t (total l + s) 0) l (s + 0) r × Padded (clear_room t (total l + s) 0) (total l) (s + 0) d
    none r c = rw (eq_yes 0 0 t (upd (upd t (total l + s) 0) (total l + s + 0 - 1) 0) refl, add-zero s) (c, h)

    go : (r : List Block) → Ordered busy r → Around t l s r → Around (clear_room t (total l + s) (room r)) l (s + room r) (past r) × Padded (clear_room t (total l + s) (room r)) (total l) (s + room r) d
    go [] o c = none [] c
    go (free b ∷ r) o c =
        let x = total l in
        let u = upd (upd t (x + s) 0) (x + s + b - 1) 0 in
        let e : x + s + b ≡ x + (s + b) = omega arith in
        let far : (y : ℕ) → (y ≡ x + s → ⊥) → (y ≡ x + s + b - 1 → ⊥) → u y ≡ t y = λ y i j. upd_other _ (x + s + b - 1) 0 y j ∙ upd_other t (x + s) 0 y i in
        rw (eq_no b 0 t u (omega (arith, o.1))) (
          around_keep t u l (s + b) r
              (λ y q. far y (⊎_elim (λ (a : y < x). omega arith) (λ (a : x + (s + b) ≤ y). omega (arith, o.1)) q) (⊎_elim (λ (a : y < x). omega (arith, o.1)) (λ (a : x + (s + b) ≤ y). omega (arith, o.1)) q))
              (record { left = c.left; right = subst (λ (y : ℕ). Tagged t y r) e c.right.1 }),
          (λ i a k. ⊎_elim
              (λ (q : suc i ≤ s). far (x + i) (omega arith) (omega (arith, o.1)) ∙ h i a (omega arith))
              (λ (q : s < suc i). ⊎_elim
              (λ (w : x + i ≡ x + s + b - 1). upd_same _ (x + s + b - 1) 0 (x + i) w)
              (λ (w : x + i ≡ x + s + b - 1 → ⊥). upd_other _ (x + s + b - 1) 0 (x + i) w ∙ ⊎_elim
              (λ (z : x + i ≡ x + s). upd_same t (x + s) 0 (x + i) z)
              (λ (z : x + i ≡ x + s → ⊥). let f : x + i ≡ x + s + (i - s) = omega arith in upd_other t (x + s) 0 (x + i) z ∙ ap t f ∙ free_hollow t (x + s) b c.right.0 (i - s) (omega (arith, z)) (omega (arith, w)))
              (same? (x + i) (x + s)))
              (same? (x + i) (x + s + b - 1)) ∙ sym (eq_no (suc i) (d / 2) _ _ (omega (arith, v.within))))
              (le? (suc i) s)),
        )
    go (used b e ∷ r) o c = none (used b e ∷ r) c
    go (last ∷ r) o c = none (last ∷ r) c
    go (gap ∷ r) o c = none (gap ∷ r) c

pub stretch_stamp_lem : (t : ℕ → ℕ) (g : Lists) (l r : List Block) (s d k : ℕ) → Ordered out (l ⟨⟩ used s d ∷ r) → 1 ≤ k → k ≤ s + room r → Inside k d → Tagged t 0 (l ⟨⟩ used s d ∷ r)
    → Tagged (stretch_stamp t (total l) s d (room r) k) 0 (leave g l (past r) (s + room r) k d).blocks
stretch_stamp_lem t g l r s d k o p q i h =
    let w = (order_split l (used s d ∷ r) o).1 in
    let c = around_one t l r (used s d) h in
    let z = stretch_room t l r s d w.1.0 w.1.1 w.2 c.0 (used_padded t (total l) s d c.1) in
    split_stamp_lem _ g l (past r) (s + room r) k d z.0 p q (λ j a b. z.1 j a (omega arith))
    (λ j a b. let e : total l + k + j ≡ total l + (k + j) = omega arith in
    ap (clear_room t (total l + s) (room r)) e ∙ z.1 (k + j) (omega arith) (omega arith) ∙ eq_no (suc (k + j)) (d / 2) _ _ (omega (arith, i.within)))
