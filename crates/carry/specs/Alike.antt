-- What is stored doesn't hang on what stood there: where two arenas agree in a byte, or two sets of slices in their tables,
-- they still do when the same writes are stored in both.
use Prim.Native.Nat.{ℕ}
use Rattle.std.specs.Prelude.{◌≡◌, List, length, get_or}
use Rattle.slices.specs.Slices.{Slices}

-- ---- the arena

-- two arenas of one length that agree in byte j
abbrev pub SameByte : ℕ → List ℕ → List ℕ → Type 0
SameByte j a b = (length b ≡ length a) × (get_or b j 0 ≡ get_or a j 0)

-- ---- the slices

-- T has the tables of S
pub record SameTables (S T : Slices) : Type 0 where
  pub lists : T.lists ≡ S.lists
  pub live : T.live ≡ S.live
  pub regions : T.regions ≡ S.regions
