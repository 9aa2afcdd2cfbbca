-- When the resize of a live payload is refused for want of a list: exactly when its block has no room, neither in place
-- nor downwards, and a take of the same length finds nothing.
use Rattle.std.specs.Prelude.{ℕ, ◌+◌, ◌<◌, ◌≡◌, ◌⊎◌}
use Rattle.definition.specs.Blocks.{used, total, room, past}
use Rattle.definition.specs.Calls.{Heap, place, keeps}
use Rattle.invariants.specs.Order.{BlockAt, stands_at}

-- neither in place nor downwards is there room for p half grains
pub record Cramped (h : Heap) (x s d p a : ℕ) (b : BlockAt x (used s d) 0 h.blocks) : Type 0 where
  pub behind : s + room (stands_at x (used s d) h.blocks b).behind < keeps d p
  pub before : let w = stands_at x (used s d) h.blocks b in
      (room w.before ≡ 0) ⊎ (room w.before + (s + room w.behind) < keeps (place a (total (past w.before))) p)
