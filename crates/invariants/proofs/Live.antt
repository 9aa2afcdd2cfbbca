-- A live payload is found by its number: return and resize go to its block, and do what they do with a used one.
use Rattle.std.specs.Prelude.{ℕ, ◌+◌, ◌*◌, ◌≡◌, List, [], ◌∷◌}
use Rattle.std.proofs.Math.Path.{ap}
use Rattle.std.proofs.Common.{◌∙◌, subst}
use Rattle.definition.specs.Blocks.{Block, used, ◌⟨⟩◌, Place, find, payload}
use Rattle.definition.specs.Calls.{Heap, granted, join, give_back_at, give_back, resize_at, resize}
use Rattle.invariants.specs.Order.{Ordered, out, order_split, BlockAt, stands_at}
use Rattle.invariants.proofs.Order.{payload_at}

module _ (h : Heap) (x s d : ℕ) (b : BlockAt x (used s d) 0 h.blocks) where
  -- the blocks before and behind that of a live payload
  abbrev pub before : List Block
  before = (stands_at x (used s d) h.blocks b).before

  abbrev pub behind : List Block
  behind = (stands_at x (used s d) h.blocks b).behind

  module _ (o : Ordered out h.blocks) where
    -- which is found by its payload
    pub live_found : find payload (2 * x + d) [] h.blocks ≡ record { before = before; behind = used s d ∷ behind }
    live_found =
        let p = stands_at x (used s d) h.blocks b in
        let i = order_split before (used s d ∷ behind) (subst (Ordered out) p.whole o) in
        ap (λ (A : List Block). find payload (2 * x + d) [] A) p.whole ∙ ap (λ (u : ℕ). find payload (2 * u + d) [] (before ⟨⟩ used s d ∷ behind)) p.place
        ∙ payload_at before behind s d i.0 i.1.1.1.some

    -- so it is given back
    pub live_back : give_back h (2 * x + d) ≡ granted 0 (join h.lists before s behind)
    unfolding give_back give_back_at
    live_back = ap (λ (p : Place). give_back_at h.lists p.before p.behind) live_found

    -- and resized
    pub live_resize : (c p a : ℕ) → resize c h (2 * x + d) p a ≡ resize_at c h (2 * x + d) p a before (used s d ∷ behind)
    unfolding resize
    live_resize c p a = ap (λ (w : Place). resize_at c h (2 * x + d) p a w.before w.behind) live_found
