-- Resize in place: the block swallows what is free behind it, and leaves what it doesn't need. Its payload stays where it is.
use Rattle.std.specs.Prelude.{ℕ, List}
use Rattle.script.specs.Memory.{Write}
use Rattle.sound.specs.Plans.{Plan}

-- a plan that leaves the payload where it is
abbrev pub in_place : ℕ → List Write → Plan
in_place q w = record { answer = q; writes = w; moved = 0; early = 0 }
