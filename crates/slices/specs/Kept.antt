-- What a store leaves as it was: the four lengths, and with them what can be stored; and every byte of the arena outside
-- the word.
use Rattle.std.specs.Prelude.{ℕ, ◌+◌, ◌*◌, ◌<◌, ◌≡◌, List, [], ◌∷◌, ◌⊎◌, length}
use Rattle.word.specs.Number.{Apart}
use Rattle.script.specs.Memory.{Size, Before, Next, Prev, none, pick, Write}
use Rattle.slices.specs.Slices.{Slices}

-- ---- lengths

pub record Lengths (S T : Slices) : Type 0 where
  pub arena : length T.arena ≡ length S.arena
  pub lists : length T.lists ≡ length S.lists
  pub live : length T.live ≡ length S.live
  pub regions : length T.regions ≡ length S.regions

-- ---- bytes

-- byte j of the arena is not in the word that is stored for x
abbrev pub Outside : ℕ → ℕ → Write → Type 0
Outside w j x =
    pick x.field Size (Apart (w * (4 * x.place)) w j 1)
    (pick x.field Before (Apart (w * (4 * x.place + Before)) w j 1)
    (pick x.field Next ((none < x.place) ⊎ Apart (w * (4 * x.place + Next)) w j 1)
    (pick x.field Prev (Apart (w * (4 * x.place + Prev)) w j 1)
    (Unit {0}))))

abbrev pub AllOutside : ℕ → ℕ → List Write → Type 0
AllOutside w j [] = Unit {0}
AllOutside w j (x ∷ l) = Outside w j x × AllOutside w j l
