-- The checks of the calls, on any memory. n is how many grains the arena has, c how many first-level classes there are. What
-- contradicts is refused with 5; a payload that is not live with 3.
use Rattle.std.specs.Prelude.{ℕ, suc, ◌+◌, ◌-◌, ◌*◌, ◌/◌, ◌%◌}
use Rattle.choice.specs.Choice.{if_eq}
use Rattle.class.specs.Class.{list_of}
use Rattle.script.specs.Memory.{Next, Prev, Mark}
use Rattle.script.specs.Script.{Script, done, ◌>>=◌, ◌>>◌, get, unless_eq, unless_le, must_eq, must_le}
use Rattle.machine.specs.Machine.{guard_next, guard_prev}
use Rattle.tags.specs.Tag.{Tag, flags, START, FREE, SMALL, LARGE, free_tag}
use Rattle.chains.specs.Links.{Head}

-- ---- numbers

-- x is a grain of the arena
abbrev pub must_grain : ℕ → ℕ → Script (Unit {0})
must_grain n x = must_le (suc x) n

-- there is a list for s grains
abbrev pub must_list : ℕ → ℕ → Script (Unit {0})
must_list c s = must_le (suc (list_of s)) (16 * c)

-- the word of field f at x is y
abbrev pub must_be : ℕ → ℕ → ℕ → Script (Unit {0})
must_be f x y = do
  v ← get f x
  must_eq v y

-- ---- tags

-- a block starts here that is not free
abbrev pub must_busy : ℕ → Script (Unit {0})
must_busy v = do
  must_le START (v % flags)
  must_le (v % flags) (START + SMALL)

-- a free block starts at x: how many grains it has
unfoldable pub must_free : ℕ → ℕ → Script ℕ
must_free n x = do
  must_grain n x
  v ← get Tag x
  must_eq (v % flags) (START + FREE)
  must_le 1 (v / flags)
  done (v / flags)

-- and its last grain, and the block after it, agree
unfoldable pub see_free : ℕ → ℕ → Script ℕ
see_free n x = do
  s ← must_free n x
  must_grain n (x + s)
  e ← get Tag (x + s - 1)
  must_eq (e % START) FREE
  must_eq (e / flags) s
  v ← get Tag (x + s)
  must_busy v
  done s

-- ---- lists

-- 1 where a is b, else 0
abbrev pub one_if : ℕ → ℕ → ℕ
one_if a b = if_eq a b 1 0

-- the free block y is in list k: its links lead to free blocks and back, and it is the head exactly where it is its own
-- previous
unfoldable pub see_entry : ℕ → ℕ → ℕ → Script (Unit {0})
see_entry n k y = do
  x ← get Next y
  p ← get Prev y
  _ ← must_free n x
  must_be Prev x (if_eq x y p y)
  _ ← must_free n p
  must_be Next p (if_eq p y x y)
  must_be Mark k 1
  h ← get Head k
  must_eq (one_if h y) (one_if p y)

-- a block can enter list k: it has no mark, or a head that is a free block and its own previous
unfoldable pub see_head : ℕ → ℕ → Script (Unit {0})
see_head n k = do
  b ← get Mark k
  h ← get Head k
  if_eq b 0 (done (tt {0})) (do
    _ ← must_free n h
    must_be Prev h h)

-- the guard of the used block at x stands
unfoldable pub see_guard : ℕ → Script (Unit {0})
see_guard x = do
  must_be Next x (guard_next x)
  must_be Prev x (guard_prev x)

-- ---- the block of a payload

pub record Owner : Type 0 where
  pub at : ℕ
  pub grains : ℕ

-- a block of s grains at x, of which the first p are padding, ends before the arena does
abbrev pub owned : ℕ → ℕ → ℕ → ℕ → Script Owner
owned n x s p = do
  must_le 1 s
  must_le p s
  must_grain n (x + s)
  done (record { at = x; grains = s })

-- the payload in the middle of grain g
abbrev pub owner_small : ℕ → ℕ → Script Owner
owner_small n g = do
  v ← get Tag g
  unless_eq 3 (v % flags) (START + SMALL)
  owned n g (v / flags) 0

-- the payload at grain g, with more than one grain of padding before it; v is the tag of the grain before
abbrev pub owner_wide : ℕ → ℕ → ℕ → Script Owner
owner_wide n g v = do
  unless_eq 3 (v % flags) LARGE
  must_le 2 (v / flags)
  must_le (v / flags) g
  u ← get Tag (g - v / flags)
  must_eq (u % flags) START
  owned n (g - v / flags) (u / flags) (v / flags)

-- the payload at grain g
abbrev pub owner_large : ℕ → ℕ → Script Owner
owner_large n g = do
  unless_le 3 1 g
  v ← get Tag (g - 1)
  if_eq (v % flags) (START + LARGE) (owned n (g - 1) (v / flags) 1) (owner_wide n g v)

-- the block of the live payload at q, which is counted in half grains
unfoldable pub see_owner : ℕ → ℕ → Script Owner
see_owner n q = do
  unless_le 3 (suc q) (2 * n)
  if_eq (q % 2) 1 (owner_small n (q / 2)) (owner_large n (q / 2))

-- ---- the blocks beside a used one: how many grains are free there

-- a free block of the list of its size
abbrev pub listed : ℕ → ℕ → ℕ → ℕ → Script ℕ
listed n c y s = do
  must_list c s
  see_entry n (list_of s) y
  done s

abbrev pub free_after : ℕ → ℕ → ℕ → Script ℕ
free_after n c y = do
  s ← see_free n y
  listed n c y s

-- after it, from y on
unfoldable pub see_after : ℕ → ℕ → ℕ → Script ℕ
see_after n c y = do
  must_grain n y
  v ← get Tag y
  if_eq (v % flags) (START + FREE) (free_after n c y) (do
    must_busy v
    done 0)

-- s grains before x
abbrev pub free_before : ℕ → ℕ → ℕ → ℕ → Script ℕ
free_before n c x s = do
  must_le 1 s
  must_le s x
  must_be Tag (x - s) (free_tag s)
  listed n c (x - s) s

-- before it, up to x
unfoldable pub see_before : ℕ → ℕ → ℕ → Script ℕ
see_before n c x = if_eq x 0 (done 0) (do
  v ← get Tag (x - 1)
  if_eq (v % START) FREE (free_before n c x (v / flags)) (done 0))

-- ---- what is to become of t grains

-- k of them are kept, and the rest, if any, enters its list
unfoldable pub see_rest : ℕ → ℕ → ℕ → ℕ → Script (Unit {0})
see_rest n c t k = do
  must_list c t
  if_eq k t (done (tt {0})) (see_head n (list_of (t - k)))

-- all of them enter their list
unfoldable pub see_join : ℕ → ℕ → ℕ → Script (Unit {0})
see_join n c t = do
  must_list c t
  see_head n (list_of t)
