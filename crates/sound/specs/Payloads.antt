-- T7 in memory: no call writes into the payload of a block that stays in use, so none of its words changes. A payload's
-- words are said in PayloadWrites, and each call is proved in its own file; here they are together.
use Rattle.std.specs.Prelude.{ℕ, ◌≡◌}
use Rattle.sound.specs.Calls.{Call, Take, Return, Resize, Give, Append}
pub use Rattle.sound.specs.PayloadWrites.{InPayload, Spares}
pub use Rattle.sound.specs.PayloadMoved.{Carried}

-- the call is not about the payload at v
abbrev pub NotOf : Call → ℕ → Type 0
NotOf (Take p a) v = Unit {0}
NotOf (Return q) v = v ≡ q → ⊥
NotOf (Resize q p a) v = v ≡ q → ⊥
NotOf (Give g len) v = Unit {0}
NotOf (Append g len) v = Unit {0}
