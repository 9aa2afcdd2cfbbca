-- What the caller does between two calls: it writes into live payloads, and nowhere else. The slices then stand for the same
-- heap as before.
use Rattle.std.specs.Prelude.{ℕ, ◌≡◌, length, get_or}
use Rattle.definition.specs.Blocks.{used}
use Rattle.definition.specs.Calls.{Heap}
use Rattle.invariants.specs.Order.{BlockAt}
use Rattle.slices.specs.Slices.{Slices}
use Rattle.carry.specs.Alike.{SameTables}
use Rattle.calls.specs.Payload.{InPayloadBytes}

-- the caller wrote into payloads that are live in h: all tables and every other byte are as they were
pub record Fills (h : Heap) (S T : Slices) : Type 0 where
  pub size : length T.arena ≡ length S.arena
  pub bytes : (j : ℕ) → ((y s d : ℕ) → BlockAt y (used s d) 0 h.blocks → InPayloadBytes j y s d → ⊥) → get_or T.arena j 0 ≡ get_or S.arena j 0
  pub tables : SameTables S T
