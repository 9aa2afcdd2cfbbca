-- What stands in live payloads is the caller's: a memory that differs from a sound one in words of live payloads alone stands
-- for the same heap. So a caller may write there between two calls.
use Rattle.std.specs.Prelude.{ℕ, ◌≤◌, ◌<◌, ◌≡◌}
use Rattle.definition.specs.Blocks.{used}
use Rattle.definition.specs.Calls.{Heap}
use Rattle.invariants.specs.Order.{BlockAt}
use Rattle.script.specs.Memory.{Memory}
use Rattle.sound.specs.PayloadWrites.{InPayload}

-- no live payload has the word of field f at x
abbrev pub NotPayload : Heap → ℕ → ℕ → Type 0
NotPayload h f x = (y s d : ℕ) → BlockAt y (used s d) 0 h.blocks → InPayload f x y s d → ⊥

-- w differs from m in live payloads alone: the fields from 4 on are the tables'
pub record Filled (h : Heap) (m w : Memory) : Type 0 where
  pub arena : (f x : ℕ) → f < 4 → NotPayload h f x → w f x ≡ m f x
  pub tables : (f x : ℕ) → 4 ≤ f → w f x ≡ m f x
