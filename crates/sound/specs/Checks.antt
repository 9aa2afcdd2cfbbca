-- The checks of which all plans are made, on any memory: what must hang together before anything is written. An arena of
-- n grains, c first-level classes. Where a check fails the call is refused with 5.
use Rattle.std.specs.Prelude.{ℕ, suc, ◌+◌, ◌-◌, ◌*◌, ◌/◌, ◌%◌}
use Rattle.choice.specs.Choice.{if_eq}
use Rattle.class.specs.Class.{list_of}
use Rattle.script.specs.Memory.{Size, Before, Next, Prev, Mark, Live, none, root, last_word}
use Rattle.script.specs.Script.{Script, read, done, stop, ◌>>=◌, ◌>>◌, get, unless_eq, must_eq, must_le, must_differ}

-- ---- what a size word says

pub data Word : Type 0 where
  is_free is_used : ℕ → Word
  is_last is_bad : Word

-- the decoder keeps sizes inside the arena, so no bound is checked here
unfoldable pub word_of : ℕ → Word
unfolding if_eq
word_of v = if_eq v last_word is_last (if_eq (v / 4) 0 is_bad (if_eq (v % 4) 0 (is_free (v / 4)) (if_eq (v % 4) 1 (is_used (v / 4)) is_bad)))

-- ---- links

-- x is a grain of the arena
abbrev pub must_grain : ℕ → ℕ → Script (Unit {0})
must_grain n x = must_le (suc x) n

-- field f of grain x leads to y
abbrev pub must_lead : ℕ → ℕ → ℕ → Script (Unit {0})
must_lead f x y = read f x (λ v. must_eq v y)

-- x is none, or a grain whose field f leads back to y
abbrev pub must_back : ℕ → ℕ → ℕ → ℕ → Script (Unit {0})
must_back n f x y = if_eq x none (done (tt {0})) (must_grain n x >> must_lead f x y)

-- ---- blocks

-- a used block, or a sentinel
abbrev pub as_busy : Word → Script (Unit {0})
as_busy (is_free s) = stop 5
as_busy (is_used s) = done (tt {0})
as_busy is_last = done (tt {0})
as_busy is_bad = stop 5

abbrev pub as_free : Word → Script ℕ
as_free (is_free s) = done s
as_free (is_used s) = stop 5
as_free is_last = stop 5
as_free is_bad = stop 5

abbrev pub as_used : Word → Script ℕ
as_used (is_free s) = stop 5
as_used (is_used s) = done s
as_used is_last = stop 5
as_used is_bad = stop 5

abbrev pub must_busy : ℕ → Script (Unit {0})
must_busy x = read Size x (λ v. as_busy (word_of v))

abbrev pub must_free : ℕ → Script ℕ
must_free x = read Size x (λ v. as_free (word_of v))

abbrev pub must_used : ℕ → Script ℕ
must_used x = read Size x (λ v. as_used (word_of v))

-- a size that has a list
abbrev pub must_list : ℕ → ℕ → Script (Unit {0})
must_list c s = must_le (suc (list_of s)) (16 * c)

-- ---- entries of the free lists

-- a block's neighbours in its list, behind it and before it
pub record Entry : Type 0 where
  pub next : ℕ
  pub prev : ℕ

-- p stands before y in a list whose head is h: nothing exactly where y is the head
abbrev pub see_prev : ℕ → ℕ → ℕ → ℕ → Script (Unit {0})
see_prev n h y p = if_eq p none (must_eq h y) (do
  must_grain n h
  must_differ h y
  must_grain n p
  must_lead Next p y)

-- y is in list k
unfoldable pub see_entry : ℕ → ℕ → ℕ → Script Entry
see_entry n k y = do
  x ← get Next y
  must_back n Prev x y
  h ← get Next (root k)
  b ← get Mark k
  must_eq b 1
  p ← get Prev y
  see_prev n h y p
  done (record { next = x; prev = p })

-- the head of list k, which gets another before it
unfoldable pub see_head : ℕ → ℕ → Script ℕ
see_head n k = do
  h ← get Next (root k)
  b ← get Mark k
  if_eq h none (must_eq b 0) (do
    must_grain n h
    must_eq b 1
    must_lead Prev h none)
  done h

-- ---- the blocks beside a used one

pub data Beside : Type 0 where
  nobody : Beside
  somebody : ℕ → Entry → Beside

-- a free block of t grains at y, behind a used one
abbrev pub free_behind : ℕ → ℕ → ℕ → ℕ → Script Beside
free_behind n c y t = do
  must_list c t
  must_busy (y + t)
  must_lead Before (y + t) y
  e ← see_entry n (list_of t) y
  done (somebody t e)

abbrev pub as_behind : ℕ → ℕ → ℕ → Word → Script Beside
as_behind n c y (is_free t) = free_behind n c y t
as_behind n c y (is_used t) = done nobody
as_behind n c y is_last = done nobody
as_behind n c y is_bad = stop 5

-- what stands at y, behind a used block
unfoldable pub see_behind : ℕ → ℕ → ℕ → Script Beside
see_behind n c y = do
  v ← get Size y
  as_behind n c y (word_of v)

-- a free block of t grains at z, before a used one at x
abbrev pub free_before : ℕ → ℕ → ℕ → ℕ → ℕ → Script Beside
free_before n c x z t = do
  must_eq (z + t) x
  must_list c t
  e ← see_entry n (list_of t) z
  done (somebody t e)

abbrev pub as_before : ℕ → ℕ → ℕ → ℕ → Word → Script Beside
as_before n c x z (is_free t) = free_before n c x z t
as_before n c x z (is_used t) = must_eq (z + t) x >> done nobody
as_before n c x z is_last = stop 5
as_before n c x z is_bad = stop 5

-- what stands before the block at x
unfoldable pub see_before : ℕ → ℕ → ℕ → Script Beside
see_before n c x = do
  z ← get Before x
  if_eq z none (done nobody) (do
    must_le (suc z) x
    v ← get Size z
    as_before n c x z (word_of v))

-- ---- the block of a live payload at q: refused with 3 where none is live

pub record Owner : Type 0 where
  pub at : ℕ
  pub grains : ℕ

-- the grain of its block: half a grain before it, or as the word before it says
abbrev pub block_of : ℕ → Script ℕ
block_of q = if_eq (q % 2) 1 (done (q / 2)) (do
  x ← get Prev (q / 2 - 1)
  must_le (suc x) (q / 2)
  done x)

unfoldable pub see_owner : ℕ → Script Owner
see_owner q = do
  b ← get Live q
  unless_eq 3 b 1
  x ← block_of q
  s ← must_used x
  must_le q (2 * (x + s))
  must_lead Before (x + s) x
  done (record { at = x; grains = s })
