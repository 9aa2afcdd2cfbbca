-- insert and append: len grains from g on, in an arena of n grains, with a table that holds at most `most` regions. The table
-- is read, then the heads of the lists that pieces enter are checked; after that the pieces are laid.
use Rattle.std.specs.Prelude.{ℕ, zero, suc, ◌+◌, ◌-◌, ◌%◌, ◌^◌, min, List, [], ◌∷◌, ◌++◌}
use Rattle.choice.specs.Choice.{if_eq, if_le}
use Rattle.class.specs.Class.{list_of}
use Rattle.script.specs.Memory.{Table, Write}
use Rattle.script.specs.Script.{Script, done, stop, ◌>>=◌, ◌>>◌, get, unless_le, must_eq, must_le}
use Rattle.sound.specs.RegionPlan.{see_regions, entry_writes}
use Rattle.tags.specs.Writes.{piece_tags}
use Rattle.chains.specs.Steps.{Step, enter}
use Rattle.plans.specs.Deeds.{Deed, Plan, plan_script}
use Rattle.plans.specs.Checks.{see_head}

-- the first piece of len grains: all of them, or as many as the longest piece has
abbrev pub piece_size : ℕ → ℕ → ℕ
piece_size c len = min len (2 ^ c)

-- the pieces of len grains at x, i of them at the most: their tags, their steps, and what is left over
unfoldable pub lay_tags : ℕ → ℕ → ℕ → ℕ → List Write
lay_tags c zero x len = []
lay_tags c (suc i) x len = if_le len 1 [] (piece_tags x (piece_size c len) ++ lay_tags c i (x + piece_size c len) (len - piece_size c len))

unfoldable pub lay_steps : ℕ → ℕ → ℕ → ℕ → List Step
lay_steps c zero x len = []
lay_steps c (suc i) x len = if_le len 1 [] (enter (list_of (piece_size c len - 1)) x ∷ lay_steps c i (x + piece_size c len) (len - piece_size c len))

unfoldable pub lay_over : ℕ → ℕ → ℕ → ℕ
lay_over c zero len = len
lay_over c (suc i) len = if_le len 1 len (lay_over c i (len - piece_size c len))

-- region r
abbrev pub region_deed : ℕ → ℕ → ℕ → ℕ → Deed
region_deed c r g len = record {
  answer = len - lay_over c len len;
  moved = 0;
  early = lay_steps c len g len;
  late = [];
  guards = [];
  records = lay_tags c len g len ++ entry_writes r g (g + (len - lay_over c len len));
}

-- the lists of the full pieces, and of the last one
unfoldable pub see_pieces : ℕ → ℕ → ℕ → Script (Unit {0})
see_pieces n c len = do
  if_le (2 ^ c) len (see_head n (list_of (2 ^ c - 1))) (done (tt {0}))
  if_le 2 (len % 2 ^ c) (see_head n (list_of (len % 2 ^ c - 1))) (done (tt {0}))

-- behind: 1 where the region must begin where another ended
unfoldable pub region_script : ℕ → ℕ → ℕ → ℕ → ℕ → ℕ → Script Plan
region_script most behind n c g len = do
  r ← get Table 0
  if_eq r most (stop 6) (done (tt {0}))
  unless_le 4 2 len
  unless_le 4 (g + len) n
  must_le r most
  l ← see_regions n g len r 0 (record { meets = 0; wrong = 0 })
  unless_le 4 behind l.meets
  must_eq l.wrong 0
  see_pieces n c len
  plan_script (region_deed c r g len)
