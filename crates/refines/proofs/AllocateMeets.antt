-- T4, allocate: on a sound memory it does what the definition says.
use Rattle.std.specs.Prelude.{ℕ, ◌+◌, ◌-◌, ◌*◌, ◌≤◌, ◌≡◌, refl}
use Rattle.std.proofs.Common.{arith, sym, ◌∙◌, subst, inl}
use Rattle.std.proofs.Math.Path.{ap}
use mathlib.Core.List.{List, [], ◌∷◌}
use Rattle.class.specs.Class.{list_of, start_of}
use Rattle.definition.specs.Blocks.{Block, free, total, ◌⟨⟩◌}
use Rattle.definition.specs.Lists.{Lists, drop, Found, nothing, found}
use Rattle.definition.specs.Calls.{Heap, wanted, place, keeps, leave as leave_rest, take}
use Rattle.invariants.specs.Order.{out, at_here, Apart, same, before, behind}
use Rattle.invariants.proofs.Order.{at_whole, apart}
use Rattle.invariants.specs.Members.{Mem, mem_drop}
use Rattle.invariants.specs.Moves.{Ok}
use Rattle.invariants.specs.Placing.{Align}
use Rattle.invariants.specs.Promises.{search_empty, sought, refused_exactly}
use Rattle.invariants.proofs.Promises.{finds, take_found}
use Rattle.script.specs.Memory.{Memory}
use Rattle.script.specs.Script.{Gives, no, run}
use Rattle.script.proofs.Script.{gives_bind, halts}
use Rattle.chains.specs.Steps.{steps_lists}
use Rattle.chains.proofs.Steps.{lists_append}
use Rattle.chains.specs.Legal.{NotIn, Legal}
use Rattle.chains.proofs.Legal.{legal_append}
use Rattle.chains.proofs.Closed.{ready_append}
use Rattle.plans.specs.Deeds.{plan_of}
use Rattle.plans.proofs.Planned.{plan_gives, taken_checked}
use Rattle.plans.specs.Allocate.{taken_steps, allocate_deed, see_taken, allocate_script}
use Rattle.armour.specs.Row.{Sound}
use Rattle.armour.specs.Turns.{link_bounds}
use Rattle.armour.proofs.Changed.{rest_free}
use Rattle.armour.specs.Allocates.{first_at}
use Rattle.armour.proofs.Allocates.{handed, kept_some, kept_fits, take_ready, take_turns, taken_found}
use Rattle.refines.specs.Sounds.{Grants, Meets}
use Rattle.refines.proofs.Sounds.{sound_after}
use Rattle.refines.proofs.Seen.{sound_ok}
use Rattle.refines.proofs.SeenTaken.{taken_at, taken_refused}
use Rattle.refines.proofs.Listed.{rest_lists, rest_legal}

module _ (n c p a : ℕ) (m : Memory) (f : Lists) (l r : List Block) (s : ℕ) (al : Align a) (o : Sound n c m (record { blocks = l ⟨⟩ free s ∷ r; lists = f }))
    (enough : wanted p a ≤ s) (e : sought c (record { blocks = l ⟨⟩ free s ∷ r; lists = f }) p a ≡ found (list_of s) (total l)) where
  abbrev kept : ℕ
  kept = keeps (place a (total l)) p

  abbrev after : Heap
  after = handed n c p a m f l r s al o.row enough

  pub taken_here : Gives m (see_taken n c p a) (first_at (total l) s)
  taken_here = taken_at n c p a m (record { blocks = l ⟨⟩ free s ∷ r; lists = f }) o (list_of s) (total l) s e (at_here l r (free s)) refl

  pub head_member : Mem (total l) (f (list_of s))
  head_member = let k = finds f (16 * c - start_of (wanted p a)) (start_of (wanted p a)) (list_of s) (total l) e in rw k.list (inl refl)

  -- the rest is in no list
  pub rest_none : (kept ≡ s → ⊥) → NotIn (drop (list_of s) (total l) f) (total l + keeps (place a (total l)) p)
  rest_none ne k i =
      let u = total l + kept in
      let fits = kept_fits n c p a m f l r s al o.row enough in
      let some = kept_some n c p a m f l r s al o.row enough in
      let t = o.exact.there k u (mem_drop f o.exact.apiece (list_of s) (total l) k u i) in
      go u fits some t.0 (at_whole u (free t.0) 0 out (l ⟨⟩ free s ∷ r) o.row.order t.1) (apart (total l) u 0 (free s) (free t.0) (l ⟨⟩ free s ∷ r) (at_here l r (free s)) t.1)
    where
      go : (u : ℕ) → kept ≤ s → 1 ≤ kept → (t : ℕ) → 1 ≤ t → Apart (total l) (free s) (total l + kept) (free t) → ⊥
      go u fits some t q (same z v) = omega arith
      go u fits some t q (before z) = omega (arith, ne)
      go u fits some t q (behind z) = omega arith

  pub taken_legal : Legal f (taken_steps p a (first_at (total l) s))
  taken_legal = (head_member, rest_legal (drop (list_of s) (total l) f) (total l) s kept rest_none)

  pub taken_lists : steps_lists f (taken_steps p a (first_at (total l) s)) ≡ (handed n c p a m f l r s al o.row enough).lists
  taken_lists = rest_lists (drop (list_of s) (total l) f) l r s kept (place a (total l))

  take_grants : Ok c (handed n c p a m f l r s al o.row enough) → Grants n c m (allocate_script n c p a) (2 * total l + place a (total l)) (handed n c p a m f l r s al o.row enough)
  unfolding allocate_script
  take_grants good =
      let h : Heap = record { blocks = l ⟨⟩ free s ∷ r; lists = f } in
      let w = taken_steps p a (first_at (total l) s) in
      let v = taken_found n c p a m (l ⟨⟩ free s ∷ r) (first_at (total l) s) al o.row (taken_checked n c p a m taken_here) in
      record {
        plan = plan_of m (allocate_deed p a (first_at (total l) s));
        gives = gives_bind m (see_taken n c p a) _ taken_here (plan_gives m (allocate_deed p a (first_at (total l) s)));
        answer = refl;
        sound = sound_after n c m h after (allocate_deed p a (first_at (total l) s)) o
            (take_turns n c p a m f l r s al o.row enough (ready_append (link_bounds c (l ⟨⟩ free s ∷ r) after.blocks) m w []
            (take_ready n c p a m f l r s al o.row enough after.blocks v.small v.next v.prev v.rest (λ ne. (_, rest_free (drop (list_of s) (total l) f) l r s kept (place a (total l)) ne))) tt))
            good (legal_append f w [] taken_legal tt) (λ k. ap (λ (g : Lists). g k) (lists_append f w [] ∙ taken_lists));
      }

-- refused where the search is
allocate_halts : (n c p a : ℕ) (m : Memory) {r : ℕ} → run m (see_taken n c p a) ≡ no r → run m (allocate_script n c p a) ≡ no r
unfolding allocate_script
allocate_halts n c p a m e = halts m (see_taken n c p a) _ e

-- where the search finds something, and where it finds nothing
pub allocate_meets : (n c p a : ℕ) (m : Memory) (h : Heap) → Align a → Sound n c m h → Meets n c m (allocate_script n c p a) (take c h p a)
allocate_meets n c p a m h al o = go (sought c h p a) refl
  where
    at_parts : (l r : List Block) (s k y : ℕ) → h.blocks ≡ l ⟨⟩ free s ∷ r → y ≡ total l → list_of s ≡ k → wanted p a ≤ s → sought c h p a ≡ found k y
        → Ok c (leave_rest (drop k y h.lists) l r s (keeps (place a y) p) (place a y))
        → Grants n c m (allocate_script n c p a) (2 * y + place a y) (leave_rest (drop k y h.lists) l r s (keeps (place a y) p) (place a y))
    at_parts l r s k y eb ey ek en e good =
        subst (λ (y : ℕ). sought c h p a ≡ found k y → Ok c (leave_rest (drop k y h.lists) l r s (keeps (place a y) p) (place a y))
        → Grants n c m (allocate_script n c p a) (2 * y + place a y) (leave_rest (drop k y h.lists) l r s (keeps (place a y) p) (place a y))) (sym ey)
        (subst (λ (k : ℕ). sought c h p a ≡ found k (total l) → Ok c (leave_rest (drop k (total l) h.lists) l r s (keeps (place a (total l)) p) (place a (total l)))
        → Grants n c m (allocate_script n c p a) (2 * total l + place a (total l)) (leave_rest (drop k (total l) h.lists) l r s (keeps (place a (total l)) p) (place a (total l)))) ek
        (λ e good. take_grants n c p a m h.lists l r s al (subst (λ (zs : List Block). Sound n c m (record { blocks = zs; lists = h.lists })) eb o) en
        (subst (λ (zs : List Block). sought c (record { blocks = zs; lists = h.lists }) p a ≡ found (list_of s) (total l)) eb e) good)) e good

    go : (w : Found) → sought c h p a ≡ w → Meets n c m (allocate_script n c p a) (take c h p a)
    go nothing e =
        let d = (refused_exactly c h p a).1 (λ j low high. search_empty h.lists (16 * c - start_of (wanted p a)) (start_of (wanted p a)) e j low (omega arith)) in
        subst (Meets n c m (allocate_script n c p a)) (sym d) (allocate_halts n c p a m (taken_refused n c p a m h o e))
    go (found k y) e =
        let t = take_found c h p a k y (sound_ok n c m h o) al e in
        subst (Meets n c m (allocate_script n c p a)) (sym t.answer) (at_parts t.l t.r t.s k y t.whole t.stands t.list t.enough e t.ok)
