-- Whether a region can be given, on any memory that has this table: the answer is the script's refusal, or the script goes
-- on to lay out the region (`Answered`). The script is taken in two parts: what is asked before the other regions are
-- looked at, and from there on (`beside`). Each law is one return of the code.
use Rattle.std.specs.Prelude.{ℕ, ◌+◌, ◌-◌, ◌/◌, ◌≤◌, ◌<◌, ◌≡◌, true, false, List, [], length, Result, Ok, Err, ⊤}
use Rattle.std.proofs.Common.{arith, ap, sym, ◌∙◌}
use Rattle.choice.specs.Choice.{if_eq, eq_yes, eq_no}
use Rattle.table.specs.Table.{entry}
use Rattle.script.specs.Memory.{Memory, Table}
use Rattle.script.specs.Script.{Script, no, run, done, stop, ◌>>=◌, ◌>>◌, unless_le, must_eq, must_le, Gives}
use Rattle.script.proofs.Script.{goes, halts, reads, gives_done, gives_eq, gives_le, halts_eq, halts_le, runs_stop}
use Rattle.sound.specs.Plans.{Plan}
use Rattle.sound.specs.RegionPlan.{see_regions, Layout, lay_script, planned, region_script}
use Rattle.sound.specs.RegionSound.{nothing_seen}
use Rattle.refusal.specs.Number.{number}
use Rattle.refusal.specs.declared.Refusal.{Refusal}
use Rattle.refusal.specs.declared.Refusal.TheVariants.{Misplaced, Damaged, TooShort}
use Rattle.region.specs.declared.Findings.{Findings}
use Rattle.region.specs.declared.Place.{Place}
use Rattle.region.specs.declared.Place.TheVariants.{Anywhere, Behind}
use Rattle.region.specs.Look.{Holds, bit, LookedThrough}

-- how many regions the table t can hold
abbrev pub most_of : List ℕ → ℕ
most_of t = (length t - 1) / 2

-- ---- the script in parts

-- what is planned for len grains from g on, laid out as w says, with r regions in the table
abbrev pub given : ℕ → ℕ → ℕ → Layout → Script Plan
given g len r w = done (planned r g len w)

-- the region laid out
abbrev pub laying : ℕ → ℕ → ℕ → ℕ → ℕ → Script Plan
laying n c g len r = lay_script n c len [] g len >>= given g len r

-- from the look at the r regions on
abbrev pub beside : ℕ → ℕ → ℕ → ℕ → ℕ → ℕ → Script Plan
beside behind n c g len r = do
  l ← see_regions n g len r 0 nothing_seen
  unless_le 4 behind l.meets
  must_eq l.wrong 0
  laying n c g len r

-- what the script hears: 1 where the region must begin where another ended
abbrev pub asked : Place → ℕ
asked Anywhere = 0
asked Behind = 1

-- ---- what the code answers

-- refused with r, or the script goes on with s
abbrev pub Goes : Memory → Script Plan → Script Plan → Result ⊤ Refusal → Type 0
Goes m t s (Ok u) = run m t ≡ run m s
Goes m t s (Err r) = run m t ≡ no (number r)

-- there is room in the table, and the region is inside the arena
pub record Givable (t : List ℕ) (n g len : ℕ) : Type 0 where
  pub spare : entry t 0 < most_of t
  pub long : 2 ≤ len
  pub inside : g + len ≤ n

-- what holds where nothing is refused
abbrev pub Admitted : List ℕ → ℕ → ℕ → ℕ → Result ⊤ Refusal → Type 0
Admitted t n g len (Ok u) = Givable t n g len
Admitted t n g len (Err r) = Unit {0}

pub record Answered (t : List ℕ) (behind n g len : ℕ) (r : Result ⊤ Refusal) : Type 0 where
  pub room : Admitted t n g len r
  pub script : (m : Memory) → Holds m t → (c : ℕ) → Goes m (region_script (most_of t) behind n c g len) (laying n c g len (entry t 0)) r

abbrev pub AnsweredBeside : List ℕ → ℕ → ℕ → ℕ → ℕ → Result ⊤ Refusal → Type 0
AnsweredBeside t behind n g len r = (m : Memory) → Holds m t → (c : ℕ) → Goes m (beside behind n c g len (entry t 0)) (laying n c g len (entry t 0)) r

-- ---- before the look

module _ (t : List ℕ) (behind n g len most count : ℕ) (most_is : most ≡ most_of t) (count_is : count ≡ entry t 0) where
  module _ (m : Memory) (h : Holds m t) (c : ℕ) where
    -- the number of regions, as the script reads it
    counted : m Table 0 ≡ count
    counted = h 0 ∙ sym count_is

    not_full : (count ≡ most → ⊥) → Gives m (if_eq count most (stop 6) (done (tt {0}))) (tt {0})
    not_full ne = ap (run m) (eq_no count most (stop 6) (done (tt {0})) ne) ∙ gives_done m (tt {0})

    full : count ≡ most → run m (region_script most behind n c g len) ≡ no 6
    unfolding region_script
    full e = reads m Table 0 _ counted ∙ halts m (if_eq count most (stop 6) (done (tt {0}))) _
        (ap (run m) (eq_yes count most (stop 6) (done (tt {0})) e) ∙ runs_stop m 6)

    short : (count ≡ most → ⊥) → len < 2 → run m (region_script most behind n c g len) ≡ no 4
    unfolding region_script
    short ne a = reads m Table 0 _ counted ∙ goes m (if_eq count most (stop 6) (done (tt {0}))) _ (not_full ne)
        ∙ halts m (unless_le 4 2 len) _ (halts_le m 4 2 len a)

    outside : (count ≡ most → ⊥) → 2 ≤ len → n < g + len → run m (region_script most behind n c g len) ≡ no 4
    unfolding region_script
    outside ne a b = reads m Table 0 _ counted ∙ goes m (if_eq count most (stop 6) (done (tt {0}))) _ (not_full ne)
        ∙ goes m (unless_le 4 2 len) _ (gives_le m 4 2 len a)
        ∙ halts m (unless_le 4 (g + len) n) _ (halts_le m 4 (g + len) n b)

    over_full : (count ≡ most → ⊥) → 2 ≤ len → g + len ≤ n → most < count → run m (region_script most behind n c g len) ≡ no 5
    unfolding region_script
    over_full ne a b d = reads m Table 0 _ counted ∙ goes m (if_eq count most (stop 6) (done (tt {0}))) _ (not_full ne)
        ∙ goes m (unless_le 4 2 len) _ (gives_le m 4 2 len a)
        ∙ goes m (unless_le 4 (g + len) n) _ (gives_le m 4 (g + len) n b)
        ∙ halts m (must_le count most) _ (halts_le m 5 count most d)

    goes_on : (count ≡ most → ⊥) → 2 ≤ len → g + len ≤ n → count ≤ most → run m (region_script most behind n c g len) ≡ run m (beside behind n c g len count)
    unfolding region_script
    goes_on ne a b d = reads m Table 0 _ counted ∙ goes m (if_eq count most (stop 6) (done (tt {0}))) _ (not_full ne)
        ∙ goes m (unless_le 4 2 len) _ (gives_le m 4 2 len a)
        ∙ goes m (unless_le 4 (g + len) n) _ (gives_le m 4 (g + len) n b)
        ∙ goes m (must_le count most) _ (gives_le m 5 count most d)

  -- the table is full
  pub answer_full : count ≡ most → Answered t behind n g len (Err TooShort)
  answer_full e = record { room = tt; script = λ m h c. rw (← most_is) (full m h c e) }

  -- the region is too short
  pub answer_short : (count ≡ most → ⊥) → len < 2 → Answered t behind n g len (Err Misplaced)
  answer_short ne a = record { room = tt; script = λ m h c. rw (← most_is) (short m h c ne a) }

  -- it is not inside the arena
  pub answer_outside : (count ≡ most → ⊥) → 2 ≤ len → n < g + len → Answered t behind n g len (Err Misplaced)
  answer_outside ne a b = record { room = tt; script = λ m h c. rw (← most_is) (outside m h c ne a b) }

  -- the table has more regions than it can hold
  pub answer_over : (count ≡ most → ⊥) → 2 ≤ len → g + len ≤ n → most < count → Answered t behind n g len (Err Damaged)
  answer_over ne a b d = record { room = tt; script = λ m h c. rw (← most_is) (over_full m h c ne a b d) }

  -- the rest of the script decides
  pub answer_beside : (count ≡ most → ⊥) → 2 ≤ len → g + len ≤ n → count ≤ most → (r : Result ⊤ Refusal) → AnsweredBeside t behind n g len r → Answered t behind n g len r
  answer_beside ne a b d r s = record { room = room r; script = λ m h c. script m h c r (s m h c) }
    where
      room : (r : Result ⊤ Refusal) → Admitted t n g len r
      room (Ok u) = record { spare = omega (arith, ne); long = a; inside = b }
      room (Err r) = tt

      script : (m : Memory) → Holds m t → (c : ℕ) (r : Result ⊤ Refusal) → Goes m (beside behind n c g len (entry t 0)) (laying n c g len (entry t 0)) r
          → Goes m (region_script (most_of t) behind n c g len) (laying n c g len (entry t 0)) r
      script m h c (Ok u) q = rw (← most_is) (goes_on m h c ne a b d ∙ rw count_is q)
      script m h c (Err r) q = rw (← most_is) (goes_on m h c ne a b d ∙ rw count_is q)

-- ---- the look

module _ (t : List ℕ) (n g len count : ℕ) (count_is : count ≡ entry t 0) where
  -- a region overlaps
  pub beside_overlap : (behind : ℕ) (r : Refusal) → LookedThrough t n g len count (Err r) → AnsweredBeside t behind n g len (Err r)
  beside_overlap behind r seen m h c = rw (← count_is) (halts m (see_regions n g len count 0 nothing_seen) _ (sym (seen m h)))

  module _ (behind : ℕ) (found : Findings) (seen : LookedThrough t n g len count (Ok found)) where
    -- none ends where it must
    pub beside_apart : bit found.meets < behind → AnsweredBeside t behind n g len (Err Misplaced)
    beside_apart a m h c = rw (← count_is)
        (goes m (see_regions n g len count 0 nothing_seen) _ (sym (seen m h))
        ∙ halts m (unless_le 4 behind (bit found.meets)) _ (halts_le m 4 behind (bit found.meets) a))

    -- an entry can't be right
    pub beside_wrong : behind ≤ bit found.meets → found.wrong ≡ true → AnsweredBeside t behind n g len (Err Damaged)
    beside_wrong a e m h c = rw (← count_is)
        (goes m (see_regions n g len count 0 nothing_seen) _ (sym (seen m h))
        ∙ goes m (unless_le 4 behind (bit found.meets)) _ (gives_le m 4 behind (bit found.meets) a)
        ∙ halts m (must_eq (bit found.wrong) 0) _ (halts_eq m 5 (bit found.wrong) 0 (λ z. omega (arith, z, ap bit e))))

    -- nothing is in the way
    pub beside_clear : behind ≤ bit found.meets → found.wrong ≡ false → AnsweredBeside t behind n g len (Ok tt)
    beside_clear a e m h c = rw (← count_is)
        (goes m (see_regions n g len count 0 nothing_seen) _ (sym (seen m h))
        ∙ goes m (unless_le 4 behind (bit found.meets)) _ (gives_le m 4 behind (bit found.meets) a)
        ∙ goes m (must_eq (bit found.wrong) 0) _ (gives_eq m 5 (bit found.wrong) 0 (ap bit e)))
