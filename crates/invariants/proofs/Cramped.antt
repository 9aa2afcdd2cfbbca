-- What follows from specs/Cramped.antt.
use Rattle.std.specs.Prelude.{ℕ, ◌+◌, ◌*◌, ◌<◌, ◌≡◌, List, ◌∷◌, ◌⊎◌}
use Rattle.std.proofs.Common.{arith, sym, ◌∙◌}
use Rattle.std.proofs.Math.Path.{refl, ap}
use Rattle.std.proofs.Math.Logic.{inl, inr}
use Rattle.choice.specs.Choice.{eq_yes, eq_no, le_no, eq_case, le_case}
use Rattle.definition.specs.Blocks.{Block, used, total, room, past}
use Rattle.definition.specs.Calls.{Heap, no_list, Answer, refused, granted, place, keeps, take, answering, back_after, elsewhere, down, resize_at, resize}
use Rattle.invariants.specs.Order.{BlockAt}
use Rattle.invariants.specs.Moves.{Ok}
use Rattle.invariants.specs.Placing.{Align}
use Rattle.invariants.proofs.Promises.{take_granted}
use Rattle.invariants.proofs.Live.{before, behind, live_back, live_resize}
use Rattle.invariants.specs.Cramped.{Cramped}

-- what is granted is not refused
granted_not : (v : ℕ) (g : Heap) {P : Type 0} → granted v g ≡ refused no_list → P
granted_not v g e = let z : ◌≡◌ {A = ℕ} 0 1 = cc in absurd (omega arith)

module _ (c : ℕ) (h : Heap) (x s d p a : ℕ) (o : Ok c h) (al : Align a) (b : BlockAt x (used s d) 0 h.blocks) where
  -- the payload
  abbrev q : ℕ
  q = 2 * x + d

  -- what is taken is not the block, which is live still and can be given back
  elsewhere_refused : elsewhere c h q p a ≡ refused no_list → take c h p a ≡ refused no_list
  unfolding elsewhere back_after answering
  elsewhere_refused = go (take c h p a) refl
    where
      go : (w : Answer) → take c h p a ≡ w → back_after w q ≡ refused no_list → w ≡ refused no_list
      go (refused u) e i = i
      go (granted v g) e i =
          let t = take_granted c h p a v g o al e in
          granted_not v _ (sym (ap (answering v) (live_back g x s d (t.kept x (used s d) tt b) t.ok.order)) ∙ i)

  -- and what is not taken is not given
  refused_elsewhere : take c h p a ≡ refused no_list → elsewhere c h q p a ≡ refused no_list
  unfolding elsewhere back_after
  refused_elsewhere e = ap (λ (w : Answer). back_after w q) e

  -- no room, and nothing to take
  abbrev Wants : Type 0
  Wants = Cramped h x s d p a b × (take c h p a ≡ refused no_list)

  -- every step was tried
  resize_tried : resize_at c h q p a (before h x s d b) (used s d ∷ behind h x s d b) ≡ refused no_list → Wants
  unfolding resize_at down
  resize_tried =
      let l = before h x s d b in
      let r = behind h x s d b in
      let Says : Answer → Type 0 = λ w. w ≡ refused no_list → Wants in
      eq_case Says (keeps d p) s _ _ (λ _. granted_not _ _) λ _.
      le_case Says (keeps d p) (s + room r) _ _ (λ _. granted_not _ _) λ (u : s + room r < keeps d p).
      eq_case Says (room l) 0 _ _ (λ z e. (record { behind = u; before = inl z }, elsewhere_refused e)) λ _.
      le_case Says (keeps (place a (total (past l))) p) (room l + (s + room r)) _ _ (λ _. granted_not _ _)
      (λ v e. (record { behind = u; before = inr v }, elsewhere_refused e))

  -- and none is possible
  down_stuck : (l r : List Block) → (room l ≡ 0) ⊎ (room l + (s + room r) < keeps (place a (total (past l))) p)
      → elsewhere c h q p a ≡ refused no_list → down c h q p a l s r ≡ refused no_list
  unfolding down
  down_stuck l r (inl z) e = eq_yes (room l) 0 _ _ z ∙ e
  down_stuck l r (inr v) e = eq_case (λ (w : Answer). w ≡ refused no_list) (room l) 0 _ _ (λ _. e)
      (λ _. le_no (keeps (place a (total (past l))) p) (room l + (s + room r)) _ _ (omega (arith, v)) ∙ e)

  resize_stuck : Wants → resize_at c h q p a (before h x s d b) (used s d ∷ behind h x s d b) ≡ refused no_list
  unfolding resize_at
  resize_stuck k = eq_no (keeps d p) s _ _ (omega (arith, k.0.behind)) ∙ le_no (keeps d p) (s + room (behind h x s d b)) _ _ (omega (arith, k.0.behind))
      ∙ down_stuck (before h x s d b) (behind h x s d b) k.0.before (refused_elsewhere k.1)

  -- so it is refused exactly then
  pub cramped_exactly : (resize c h (2 * x + d) p a ≡ refused no_list → Cramped h x s d p a b × (take c h p a ≡ refused no_list))
      × (Cramped h x s d p a b × (take c h p a ≡ refused no_list) → resize c h (2 * x + d) p a ≡ refused no_list)
  cramped_exactly = let e = live_resize h x s d b o.order c p a in ((λ i. resize_tried (sym e ∙ i)), (λ k. e ∙ resize_stuck k))
