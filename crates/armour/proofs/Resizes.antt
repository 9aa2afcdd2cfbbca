-- What follows from specs/Resizes.antt.
use Rattle.std.specs.Prelude.{ℕ, ◌+◌, ◌-◌, ◌*◌, ◌≤◌, ◌<◌, ◌≡◌, List, ◌∷◌}
use Rattle.std.proofs.Common.{arith, ◌∙◌}
use Rattle.std.proofs.Math.Path.{sym, subst}
use Rattle.std.proofs.Math.Logic.{inl, inr, ⊎_elim}
use Rattle.class.specs.Class.{list_of}
use Rattle.definition.specs.Blocks.{Block, used, total, ◌⟨⟩◌, room, past}
use Rattle.definition.specs.Calls.{place, keeps}
use Rattle.invariants.proofs.Neighbours.{total_past}
use Rattle.invariants.specs.Placing.{Align}
use Rattle.script.specs.Memory.{Memory}
use Rattle.script.specs.Script.{Gives}
use Rattle.script.proofs.Script.{inv_bind, inv_done}
use Rattle.sound.proofs.Inverted.{inv_if_eq, inv_if_le}
use Rattle.plans.specs.Deeds.{Deed}
use Rattle.plans.specs.Checks.{see_after, see_before, see_rest, see_join}
use Rattle.plans.proofs.Checked.{rest_checked, join_checked}
use Rattle.plans.proofs.Planned.{taken_checked}
use Rattle.plans.specs.Allocate.{Taken, see_taken}
use Rattle.plans.specs.Reallocate.{stay_deed, stretch_deed, down_deed, elsewhere_deed, elsewhere_script, down_script, move_script, stretch_script, resize_script}
use Rattle.armour.specs.Row.{Row}
use Rattle.armour.specs.Known.{Beside}
use Rattle.armour.proofs.Known.{headed_known, after_known, before_known}
use Rattle.armour.specs.Allocates.{Found}
use Rattle.armour.proofs.Allocates.{taken_found}
use Rattle.armour.specs.Apart.{Cramped}
use Rattle.armour.specs.Resizes.{Joins, Rests}

module _ (n c p a : ℕ) (m : Memory) (l r : List Block) (s d : ℕ) where
  abbrev xs : List Block
  xs = l ⟨⟩ used s d ∷ r

  -- both neighbours
  pub record Both : Type 0 where
    pub after : Beside c m (l ⟨⟩ used s d ∷ r) (total l + s) (room r)
    pub before : Beside c m (l ⟨⟩ used s d ∷ r) (total l - room l) (room l)

  pub data Step : Deed → Type 0 where
    stays : keeps d p ≡ s → Step (stay_deed (2 * total l + d))
    stretches : (keeps d p ≡ s → ⊥) → keeps d p ≤ s + room r → Beside c m (l ⟨⟩ used s d ∷ r) (total l + s) (room r) → Rests c m (l ⟨⟩ used s d ∷ r) (s + room r) (keeps d p)
        → Step (stretch_deed (2 * total l + d) (total l) s d (room r) (keeps d p))
    lowers : (keeps d p ≡ s → ⊥) → s + room r < keeps d p → (room l ≡ 0 → ⊥) → keeps (place a (total (past l))) p ≤ room l + (s + room r) → Both
        → Rests c m (l ⟨⟩ used s d ∷ r) (room l + (s + room r)) (keeps (place a (total (past l))) p)
        → Step (down_deed (total l) s d (room l) (room r) (keeps (place a (total (past l))) p) (place a (total (past l))))
    moves : (t : Taken) → (keeps d p ≡ s → ⊥) → Cramped p a l r s d → Both → Found n c p a m (l ⟨⟩ used s d ∷ r) t → Joins c m (l ⟨⟩ used s d ∷ r) (room l + (s + room r))
        → Step (elsewhere_deed p a (total l) s d (room l) (room r) t)

  module _ (al : Align a) (o : Row n c m (l ⟨⟩ used s d ∷ r)) (ne : keeps d p ≡ s → ⊥) where
    known_rest : (t k : ℕ) {u : Unit {0}} → Gives m (see_rest n c t k) u → Rests c m (l ⟨⟩ used s d ∷ r) t k
    known_rest t k g = let h = rest_checked m n c t k g in (h.0, λ e. headed_known n c m xs o (list_of (t - k)) (h.1 e))

    -- step 4
    seen_elsewhere : {u : Deed} → Cramped p a l r s d → Both → Gives m (elsewhere_script n c p a (total l) s d (room l) (room r)) u → Step u
    unfolding elsewhere_script
    seen_elsewhere {u} k b g =
        let i = inv_bind m (see_taken n c p a) _ g in
        let j = inv_bind m (see_join n c (room l + (s + room r))) _ i.2 in
        let h = join_checked m n c (room l + (s + room r)) j.1 in
        subst Step (inv_done m _ u j.2)
        (moves i.0 ne k b (taken_found n c p a m xs i.0 al o (taken_checked n c p a m i.1)) (h.0, headed_known n c m xs o (list_of (room l + (s + room r))) h.1))

    -- step 3
    seen_down : {u : Deed} → s + room r < keeps d p → (room l ≡ 0 → ⊥) → Both → Gives m (down_script n c p a (total l) s d (room l) (room r)) u → Step u
    unfolding down_script
    seen_down {u} gt nr b g =
        let z : total l - room l ≡ total (past l) = omega (arith, total_past l) in
        ⊎_elim
        (λ i. let j = inv_bind m (see_rest n c (room l + (s + room r)) (keeps (place a (total l - room l)) p)) _ i.1 in
        subst Step (inv_done m _ u j.2)
        (subst (λ (z : ℕ). keeps (place a z) p ≤ room l + (s + room r) → Rests c m (l ⟨⟩ used s d ∷ r) (room l + (s + room r)) (keeps (place a z) p)
        → Step (down_deed (total l) s d (room l) (room r) (keeps (place a z) p) (place a z))) (sym z)
        (λ le h. lowers ne gt nr le b h) i.0 (known_rest (room l + (s + room r)) (keeps (place a (total l - room l)) p) j.1)))
        (λ i. seen_elsewhere (record { after = gt; before = inr (subst (λ (z : ℕ). room l + (s + room r) < keeps (place a z) p) z i.0) }) b i.1)
        (inv_if_le m (keeps (place a (total l - room l)) p) (room l + (s + room r)) _ _ g)

    seen_move : {u : Deed} → s + room r < keeps d p → Beside c m (l ⟨⟩ used s d ∷ r) (total l + s) (room r) → Gives m (move_script n c p a (total l) s d (room r)) u → Step u
    unfolding move_script
    seen_move {u} gt b g =
        let i = inv_bind m (see_before n c (total l)) _ g in
        let k = before_known n c m l r s d o i.1 in
        let e : i.0 ≡ room l = k.0 in
        let w : Both = record { after = b; before = subst (λ (a : ℕ). Beside c m (l ⟨⟩ used s d ∷ r) (total l - a) a) e k.1 } in
        ⊎_elim
        (λ j. let q : 0 ≡ room l = sym j.0 ∙ e in
        seen_elsewhere (record { after = gt; before = inl (sym q) }) w (subst (λ (v : ℕ). Gives m (elsewhere_script n c p a (total l) s d v (room r)) u) q j.1))
        (λ j. seen_down gt (λ q. j.0 (e ∙ q)) w (subst (λ (v : ℕ). Gives m (down_script n c p a (total l) s d v (room r)) u) e j.1))
        (inv_if_eq m i.0 0 _ _ i.2)

  pub resize_known : Align a → Row n c m (l ⟨⟩ used s d ∷ r) → {u : Deed} → Gives m (resize_script n c (2 * total l + d) p a (total l) s d) u → Step u
  unfolding resize_script stretch_script
  resize_known al o {u} g = ⊎_elim
      (λ i. subst Step (inv_done m _ u i.1) (stays i.0))
      (λ i.
      let j = inv_bind m (see_after n c (total l + s)) _ i.1 in
      let k = after_known n c m l r s d o j.1 in
      let h : Gives m (stretch_script n c (2 * total l + d) p a (total l) s d (room r)) u = subst (λ (b : ℕ). Gives m (stretch_script n c (2 * total l + d) p a (total l) s d b) u) k.0 j.2 in
      grown i.0 (subst (Beside c m (l ⟨⟩ used s d ∷ r) (total l + s)) k.0 k.1) h)
      (inv_if_eq m (keeps d p) s _ _ g)
    where
      grown : (keeps d p ≡ s → ⊥) → Beside c m (l ⟨⟩ used s d ∷ r) (total l + s) (room r) → Gives m (stretch_script n c (2 * total l + d) p a (total l) s d (room r)) u → Step u
      grown ne b h = ⊎_elim
          (λ i. let j = inv_bind m (see_rest n c (s + room r) (keeps d p)) _ i.1 in
          subst Step (inv_done m _ u j.2) (stretches ne i.0 b (known_rest al o ne (s + room r) (keeps d p) j.1)))
          (λ i. seen_move al o ne i.0 b i.1)
          (inv_if_le m (keeps d p) (s + room r) _ _ h)
