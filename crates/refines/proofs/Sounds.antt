-- What follows from specs/Sounds.antt.
use Rattle.std.specs.Prelude.{ℕ, ◌≡◌, refl, List, [], ◌∷◌, ◌++◌}
use Rattle.std.proofs.Common.{arith, ap, sym, ◌∙◌, subst}
use Rattle.choice.specs.Choice.{upd_other}
use Rattle.definition.specs.Blocks.{free, used}
use Rattle.definition.specs.Calls.{Heap, not_live}
use Rattle.invariants.specs.Order.{BlockAt}
use Rattle.invariants.proofs.Order.{one_block}
use Rattle.invariants.specs.Members.{Mem}
use Rattle.invariants.specs.Moves.{Ok, free_used}
use Rattle.script.specs.Memory.{Memory, Next, Prev, Mark, Table, apply}
use Rattle.script.proofs.Memory.{apply_append, apply_untouched}
use Rattle.tags.specs.Tag.{Tag}
use Rattle.chains.specs.Links.{Head}
use Rattle.chains.specs.Steps.{steps_writes, steps_lists}
use Rattle.chains.proofs.Steps.{steps_append}
use Rattle.chains.specs.Legal.{Legal, Kept}
use Rattle.chains.proofs.Legal.{steps_strung, kept_same, kept_apart}
use Rattle.plans.specs.Deeds.{Deed, guard_writes, early_writes, plan_of, after}
use Rattle.armour.specs.Row.{Row, Sound, Used}
use Rattle.armour.specs.Turns.{Every, Turns, Armoured}
use Rattle.armour.proofs.Turns.{stepped, linked, after_is, records_rest, turns_armoured}
use Rattle.armour.proofs.Stays.{turns_guarded}
use Rattle.refines.specs.Sounds.{number}

-- ---- guards and records leave the lists alone

guards_apart : (m : Memory) (l : List ℕ) (y : ℕ) → Every (λ x. y ≡ x → ⊥) l → (apply m (guard_writes l) Next y ≡ m Next y) × (apply m (guard_writes l) Prev y ≡ m Prev y)
guards_apart m [] y h = (refl, refl)
guards_apart m (x ∷ l) y h =
    let k = guards_apart (apply m (guard_writes (x ∷ []))) l y h.1 in
    (k.0 ∙ upd_other (m Next) x _ y h.0, k.1 ∙ upd_other (m Prev) x _ y h.0)

guards_head : (m : Memory) (l : List ℕ) → (apply m (guard_writes l) Head ≡ m Head) × (apply m (guard_writes l) Mark ≡ m Mark)
guards_head m [] = (refl, refl)
guards_head m (x ∷ l) = guards_head (apply m (guard_writes (x ∷ []))) l

-- a member of a list is free, so it is none of the used blocks
member_other : (n c : ℕ) (u : Memory) (g : Heap) → Row n c u g.blocks → Ok c g → (l : List ℕ) → Every (Used g.blocks) l → (k y : ℕ) → Mem y (g.lists k) → Every (λ x. y ≡ x → ⊥) l
member_other n c u g o v [] h k y i = tt
member_other n c u g o v (x ∷ l) h k y i =
    let t = v.exact.there k y i in (
      (λ e. free_used (one_block y (used h.0.0 h.0.1) (free t.0) g.blocks o.order (subst (λ (x : ℕ). BlockAt x (used h.0.0 h.0.1) 0 g.blocks) (sym e) h.0.2) t.1)),
      member_other n c u g o v l h.1 k y i,
    )

module _ (n c : ℕ) (m : Memory) (h g : Heap) (t : Deed) (o : Sound n c m h) (v : Turns n c m h.blocks t g.blocks) (good : Ok c g)
    (legal : Legal h.lists (t.early ++ t.late)) (same : (k : ℕ) → steps_lists h.lists (t.early ++ t.late) k ≡ g.lists k) where
  steps_kept : Kept (stepped m t) g.lists
  steps_kept =
      let k = steps_strung m h.lists (t.early ++ t.late) (record { apiece = o.exact.apiece; strung = o.strung }) legal in
      kept_same (stepped m t) (steps_lists h.lists (t.early ++ t.late)) g.lists same
      (subst (λ (d : Memory). Kept d (steps_lists h.lists (t.early ++ t.late)))
      (ap (apply m) (steps_append m t.early t.late) ∙ apply_append m (early_writes m t) (steps_writes (apply m (early_writes m t)) t.late)) k)

  armoured : Armoured n c m h.blocks (plan_of m t) g.blocks
  armoured = turns_armoured n c m h.blocks t g.blocks v

  after_kept : Kept (after m (plan_of m t)) g.lists
  after_kept = kept_apart (stepped m t) (after m (plan_of m t)) g.lists
      (λ k. field Mark k (omega arith) (omega arith) ∙ ap (λ (f : ℕ → ℕ). f k) (guards_head (stepped m t) t.guards).1)
      (λ k. field Head k (omega arith) (omega arith) ∙ ap (λ (f : ℕ → ℕ). f k) (guards_head (stepped m t) t.guards).0)
      (λ k y i. let w = guards_apart (stepped m t) t.guards y (member_other n c _ g armoured.row good t.guards v.users k y i) in
      (field Next y (omega arith) (omega arith) ∙ w.0, field Prev y (omega arith) (omega arith) ∙ w.1))
      steps_kept
    where
      field : (i y : ℕ) → (Tag ≡ i → ⊥) → (Table ≡ i → ⊥) → after m (plan_of m t) i y ≡ linked m t i y
      field i y a b = ap (λ (d : Memory). d i y) (after_is m t) ∙ ap (λ (f : ℕ → ℕ). f y) (apply_untouched (linked m t) t.records i (records_rest i a b t.records v.records))

  pub sound_after : Sound n c (after m (plan_of m t)) g
  sound_after = record {
    row = armoured.row;
    exact = good.exact;
    strung = after_kept.strung;
    guarded = turns_guarded n c m h.blocks t g.blocks o.row.order v o.guarded;
  }
