-- The slices that a heap is lent, read as a memory (`memory_of`), what is stored in them for a write (`store`), and which
-- writes can be stored (`Valid`). Links and heads are words as they are, grain numbers; a tag has its flags in other digits
-- than the memory's, so that a test of flags is one comparison.
use Rattle.std.specs.Prelude.{ℕ, ◌+◌, ◌*◌, ◌/◌, ◌%◌, ◌≤◌, ◌<◌, List, [], ◌∷◌, length}
use Rattle.choice.specs.Choice.{if_eq}
use Rattle.word.specs.Word.{word_at, put_at}
use Rattle.table.specs.Table.{entry, enter}
use Rattle.bits.specs.Map.{map_bit, mark_bit, unmark_bit}
use Rattle.script.specs.Memory.{Memory, Next, Prev, Mark, Table, pick, Write}
use Rattle.machine.specs.Machine.{word_bytes, words, grain, piece, map_words}
use Rattle.machine.specs.Machine.{lists as list_count}
use Rattle.tags.specs.Tag.{Tag, flags}
use Rattle.chains.specs.Links.{Head}

-- the arena's bytes; the map and the list heads; the tags; the table of the regions
pub record Slices : Type 0 where
  pub arena : List ℕ
  pub lists : List ℕ
  pub tags : List ℕ
  pub regions : List ℕ

-- how many grains an arena has
unfoldable pub grains : List ℕ → ℕ
grains a = length a / grain

-- ---- tags

-- how many numbers an entry of the tags can hold
abbrev pub tag_words : ℕ
tag_words = flags * piece

-- an entry has its flags above its count; the memory's tag has them below it
unfoldable pub tag_of : ℕ → ℕ
tag_of r = flags * (r % piece) + r / piece

-- and back
unfoldable pub tag_word : ℕ → ℕ
tag_word v = v % flags * piece + v / flags

-- ---- the words of a grain

-- the first and the second
abbrev pub next_at : List ℕ → ℕ → ℕ
next_at a y = word_at word_bytes a (4 * y)

abbrev pub prev_at : List ℕ → ℕ → ℕ
prev_at a y = word_at word_bytes a (4 * y + 1)

abbrev pub put_next : List ℕ → ℕ → ℕ → List ℕ
put_next a y v = put_at word_bytes a (4 * y) v

abbrev pub put_prev : List ℕ → ℕ → ℕ → List ℕ
put_prev a y v = put_at word_bytes a (4 * y + 1) v

-- ---- read

-- the head of list k
abbrev pub head_at : List ℕ → ℕ → ℕ
head_at t k = entry t (map_words + k)

-- the memory that the slices hold
unfoldable pub memory_of : Slices → Memory
memory_of S f =
    pick f Tag (λ y. tag_of (entry S.tags y))
    (pick f Head (head_at S.lists)
    (pick f Next (next_at S.arena)
    (pick f Prev (prev_at S.arena)
    (pick f Mark (map_bit S.lists)
    (pick f Table (entry S.regions)
    (λ _. 0))))))

-- ---- stored

-- v as the head of list k
abbrev pub put_head : List ℕ → ℕ → ℕ → List ℕ
put_head t k v = enter t (map_words + k) v

-- v as the mark of list k
abbrev pub put_mark : List ℕ → ℕ → ℕ → List ℕ
put_mark t k v = if_eq v 0 (unmark_bit t k) (mark_bit t k)

-- v as the tag of grain y
abbrev pub put_tag : List ℕ → ℕ → ℕ → List ℕ
put_tag t y v = enter t y (tag_word v)

-- the slices with another arena, other lists, tags, regions
abbrev pub with_arena : Slices → List ℕ → Slices
with_arena S a = record { arena = a; lists = S.lists; tags = S.tags; regions = S.regions }

abbrev pub with_lists : Slices → List ℕ → Slices
with_lists S t = record { arena = S.arena; lists = t; tags = S.tags; regions = S.regions }

abbrev pub with_tags : Slices → List ℕ → Slices
with_tags S t = record { arena = S.arena; lists = S.lists; tags = t; regions = S.regions }

abbrev pub with_regions : Slices → List ℕ → Slices
with_regions S t = record { arena = S.arena; lists = S.lists; tags = S.tags; regions = t }

-- v in field f at y
abbrev pub store_at : Slices → ℕ → ℕ → ℕ → Slices
store_at S f y v =
    pick f Tag (with_tags S (put_tag S.tags y v))
    (pick f Head (with_lists S (put_head S.lists y v))
    (pick f Next (with_arena S (put_next S.arena y v))
    (pick f Prev (with_arena S (put_prev S.arena y v))
    (pick f Mark (with_lists S (put_mark S.lists y v))
    (pick f Table (with_regions S (enter S.regions y v))
    S)))))

-- what is stored for a write
abbrev pub store : Slices → Write → Slices
store S w = store_at S w.field w.place w.value

-- for one after the other
abbrev pub stores : Slices → List Write → Slices
stores S [] = S
stores S (w ∷ l) = stores (store S w) l

-- ---- what can be stored

-- v fits in field f at y
abbrev pub Fits : Slices → ℕ → ℕ → ℕ → Type 0
Fits S f y v =
    pick f Tag ((y < length S.tags) × (v / flags < piece))
    (pick f Head ((map_words + y < length S.lists) × (v < words))
    (pick f Next ((y < grains S.arena) × (v < words))
    (pick f Prev ((y < grains S.arena) × (v < words))
    (pick f Mark ((y < list_count) × (map_words ≤ length S.lists) × (v ≤ 1))
    (pick f Table ((y < length S.regions) × (v < words))
    ⊥)))))

-- a write that can be stored
abbrev pub Valid : Slices → Write → Type 0
Valid S w = Fits S w.field w.place w.value

-- all of them
abbrev pub AllValid : Slices → List Write → Type 0
AllValid S [] = Unit {0}
AllValid S (w ∷ l) = Valid S w × AllValid S l
