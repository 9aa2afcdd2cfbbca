-- Slices that differ at most in the words of D, as they are decoded, still do when a payload is moved in both, if its bytes
-- are the same in both.
use Prim.Native.Nat.{ℕ, ◌+◌, ◌*◌, ◌<◌}
use Rattle.std.specs.Prelude.{◌≡◌, List}
use Rattle.std.proofs.Math.ListN.{get_or}

-- the u half grains at q are the same in both arenas
abbrev pub SameBytes : List ℕ → List ℕ → ℕ → ℕ → Type 0
SameBytes a b q u = (i : ℕ) → i < 16 * u → get_or b (16 * q + i) 0 ≡ get_or a (16 * q + i) 0
