-- With which numbers the calls refuse, on any memory: no call with a number that isn't its own.
use Prim.Native.Nat.{ℕ}
use mathlib.Core.List.{List}
use Rattle.invariants.specs.Members.{Mem}

-- ---- the numbers of each call

-- r is one of them
abbrev pub Among : List ℕ → ℕ → Type 0
Among l r = Mem r l
