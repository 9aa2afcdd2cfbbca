-- What a store leaves as it was: the four lengths, and with them what can be stored; and every byte of the arena outside
-- the word. So the second half of each grain, and a grain whose words are spared, keep their bytes.
use Rattle.std.specs.Prelude.{ℕ, ◌+◌, ◌*◌, ◌≡◌, List, [], ◌∷◌, length}
use Rattle.word.specs.Number.{Apart}
use Rattle.script.specs.Memory.{Next, Prev, pick, Write}
use Rattle.machine.specs.Machine.{word_bytes}
use Rattle.lent.specs.Slices.{Slices}

-- ---- lengths

pub record Lengths (S T : Slices) : Type 0 where
  pub arena : length T.arena ≡ length S.arena
  pub lists : length T.lists ≡ length S.lists
  pub tags : length T.tags ≡ length S.tags
  pub regions : length T.regions ≡ length S.regions

-- ---- bytes

-- byte j of the arena is not in the word that is stored for w
abbrev pub Outside : ℕ → Write → Type 0
Outside j w =
    pick w.field Next (Apart (word_bytes * (4 * w.place)) word_bytes j 1)
    (pick w.field Prev (Apart (word_bytes * (4 * w.place + 1)) word_bytes j 1)
    (Unit {0}))

abbrev pub AllOutside : ℕ → List Write → Type 0
AllOutside j [] = Unit {0}
AllOutside j (w ∷ l) = Outside j w × AllOutside j l
