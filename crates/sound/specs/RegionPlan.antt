-- The script of giving a region: len grains from g on, in an arena of n, with a table that holds at most `most` regions.
-- The table is looked through, then each piece is laid on the memory as the pieces before it will leave it.
use Rattle.std.specs.Prelude.{ℕ, zero, suc, ◌+◌, ◌-◌, ◌*◌, ◌^◌, min, List, [], ◌∷◌, ◌++◌}
use Rattle.choice.specs.Choice.{if_eq, if_le}
use Rattle.class.specs.Class.{list_of}
use Rattle.script.specs.Memory.{Size, Before, Table, none, free_word, last_word, Write, ◌at◌≔◌}
use Rattle.script.specs.Script.{Script, done, stop, ◌>>=◌, ◌>>◌, get, unless_le, must_eq, must_le, over}
use Rattle.sound.specs.Checks.{see_head}
use Rattle.sound.specs.Plans.{Plan}
use Rattle.sound.specs.Links.{push_writes}

-- what the table says: 1 where a region ends at g, and 1 where an entry can't be right
pub record Looked : Type 0 where
  pub meets : ℕ
  pub wrong : ℕ

-- a region from s to e is right: at least two grains, inside the arena
abbrev pub wrong_of : ℕ → ℕ → ℕ → ℕ → ℕ
wrong_of n s e w = if_le (s + 2) e (if_le e n w 1) 1

-- the entries from i on, r of them: refused with 4 where one overlaps
unfoldable pub see_regions : ℕ → ℕ → ℕ → ℕ → ℕ → Looked → Script Looked
see_regions n g len zero i l = done l
see_regions n g len (suc r) i l = do
  s ← get Table (2 * i + 1)
  e ← get Table (2 * i + 2)
  if_le e g (done (tt {0})) (unless_le 4 (g + len) s)
  see_regions n g len r (suc i) (record { meets = if_eq e g 1 l.meets; wrong = wrong_of n s e l.wrong })

-- a piece of m grains at x, before h in its list
abbrev pub piece_writes : ℕ → ℕ → ℕ → List Write
piece_writes x m h = (Size at x ≔ free_word (m - 1)) ∷ (Before at x ≔ none) ∷ (Size at x + (m - 1) ≔ last_word) ∷ (Before at x + (m - 1) ≔ x)
    ∷ push_writes (list_of (m - 1)) x h

pub record Layout : Type 0 where
  pub writes : List Write
  pub over : ℕ

unfoldable pub lay_script : ℕ → ℕ → ℕ → List Write → ℕ → ℕ → Script Layout
lay_script n c zero w x len = done (record { writes = w; over = len })
lay_script n c (suc i) w x len = if_le len 1 (done (record { writes = w; over = len })) (do
  h ← over w (see_head n (list_of (min len (2 ^ c) - 1)))
  lay_script n c i (w ++ piece_writes x (min len (2 ^ c)) h) (x + min len (2 ^ c)) (len - min len (2 ^ c)))

-- region r, from g to e, is entered in the table
abbrev pub entry_writes : ℕ → ℕ → ℕ → List Write
entry_writes r g e = (Table at 2 * r + 1 ≔ g) ∷ (Table at 2 * r + 2 ≔ e) ∷ (Table at 0 ≔ suc r) ∷ []

-- the plan for len grains from g on, laid out as w says, which become region r
abbrev pub planned : ℕ → ℕ → ℕ → Layout → Plan
planned r g len w = record { answer = len - w.over; moved = 0; early = 0; writes = w.writes ++ entry_writes r g (g + (len - w.over)) }

-- behind: 1 where the region must begin where another ended
unfoldable pub region_script : ℕ → ℕ → ℕ → ℕ → ℕ → ℕ → Script Plan
region_script most behind n c g len = do
  r ← get Table 0
  if_eq r most (stop 6) (done (tt {0}))
  unless_le 4 2 len
  unless_le 4 (g + len) n
  must_le r most
  l ← see_regions n g len r 0 (record { meets = 0; wrong = 0 })
  unless_le 4 behind l.meets
  must_eq l.wrong 0
  w ← lay_script n c len [] g len
  done (planned r g len w)
