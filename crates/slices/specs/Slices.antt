-- The slices that a heap is lent, read as a memory (`memory_of`), what is stored in them for a write (`store`), and which
-- writes can be stored (`Valid`). The arena has words of w bytes.
use Rattle.std.specs.Prelude.{ℕ, suc, ◌+◌, ◌-◌, ◌*◌, ◌^◌, ◌≤◌, ◌<◌, ◌≡◌, List, [], ◌∷◌, ◌⊎◌, length}
use Rattle.choice.specs.Choice.{if_eq, if_le}
use Rattle.table.specs.Table.{entry, enter}
use Rattle.bits.specs.TableBit.{table_bit, set_table_bit, clear_table_bit}
use Rattle.bits.specs.Map.{map_words, map_bit, mark_bit, unmark_bit}
use Rattle.bits.specs.Map.{lists as list_count}
use Rattle.script.specs.Memory.{Memory, Size, Before, Next, Prev, Mark, Live, Table, none, root, pick, Write}
use Rattle.slices.specs.Decode.{wrong_link, ValidSize, ValidLink, grains}
use Rattle.slices.specs.Arena.{size_at, link_at, put_size, put_link}
use Rattle.slices.specs.Heads.{next_at, put_head}

-- the arena's bytes; the map and the list heads; the live bits; the table of the regions
pub record Slices : Type 0 where
  pub arena : List ℕ
  pub lists : List ℕ
  pub live : List ℕ
  pub regions : List ℕ

-- ---- read

-- the memory that the slices hold
unfoldable pub memory_of : ℕ → Slices → Memory
memory_of w S f =
    pick f Size (size_at w S.arena)
    (pick f Before (link_at w S.arena Before wrong_link)
    (pick f Next (next_at w S.arena S.lists)
    (pick f Prev (link_at w S.arena Prev wrong_link)
    (pick f Mark (map_bit S.lists)
    (pick f Live (table_bit S.live)
    (pick f Table (entry S.regions)
    (λ _. 0)))))))

-- ---- stored

-- the slices with another arena, other lists, live bits, regions
abbrev pub with_arena : Slices → List ℕ → Slices
with_arena S a = record { arena = a; lists = S.lists; live = S.live; regions = S.regions }

abbrev pub with_lists : Slices → List ℕ → Slices
with_lists S t = record { arena = S.arena; lists = t; live = S.live; regions = S.regions }

abbrev pub with_live : Slices → List ℕ → Slices
with_live S t = record { arena = S.arena; lists = S.lists; live = t; regions = S.regions }

abbrev pub with_regions : Slices → List ℕ → Slices
with_regions S t = record { arena = S.arena; lists = S.lists; live = S.live; regions = t }

-- v as the next of y, which is a root or a grain
abbrev pub with_next : ℕ → Slices → ℕ → ℕ → Slices
with_next w S y v = record {
  arena = if_le (suc none) y S.arena (put_link w S.arena Next y v);
  lists = if_le (suc none) y (put_head (4 * w) S.lists (y - suc none) v) S.lists;
  live = S.live;
  regions = S.regions;
}

-- v in field f at y
abbrev pub store_at : ℕ → Slices → ℕ → ℕ → ℕ → Slices
store_at w S f y v =
    pick f Size (with_arena S (put_size w S.arena y v))
    (pick f Before (with_arena S (put_link w S.arena Before y v))
    (pick f Next (with_next w S y v)
    (pick f Prev (with_arena S (put_link w S.arena Prev y v))
    (pick f Mark (with_lists S (if_eq v 0 (unmark_bit S.lists y) (mark_bit S.lists y)))
    (pick f Live (with_live S (if_eq v 0 (clear_table_bit S.live y) (set_table_bit S.live y)))
    (pick f Table (with_regions S (enter S.regions y v))
    S))))))

-- what is stored for a write
abbrev pub store : ℕ → Slices → Write → Slices
store w S x = store_at w S x.field x.place x.value

-- for one after the other
abbrev pub stores : ℕ → Slices → List Write → Slices
stores w S [] = S
stores w S (x ∷ l) = stores w (store w S x) l

-- ---- what can be stored

-- a mark or a live bit
abbrev pub Bit : ℕ → Type 0
Bit v = (v ≡ 0) ⊎ (v ≡ 1)

-- y is the root of a list, and the table, t long, has room for all heads
pub record Root (t y : ℕ) : Type 0 where
  pub list : ℕ
  pub place : y ≡ root list
  pub known : list < list_count
  pub room : map_words + list_count ≤ t

-- v fits in field f at y, in an arena of n grains and tables of these lengths
abbrev pub Fits : ℕ → ℕ → ℕ → ℕ → ℕ → ℕ → ℕ → Type 0
Fits n t live regions f y v =
    pick f Size ((y < n) × ValidSize n y v)
    (pick f Before ((y < n) × ValidLink n v)
    (pick f Next (((y < n) ⊎ Root t y) × ValidLink n v)
    (pick f Prev ((y < n) × ValidLink n v)
    (pick f Mark ((y < list_count) × (map_words ≤ t) × Bit v)
    (pick f Live ((y < 64 * live) × Bit v)
    (pick f Table ((y < regions) × (v < 2 ^ 64))
    ⊥))))))

-- a write that can be stored
abbrev pub Valid : ℕ → Slices → Write → Type 0
Valid w S x = Fits (grains w S.arena) (length S.lists) (length S.live) (length S.regions) x.field x.place x.value

-- all of them
abbrev pub AllValid : ℕ → Slices → List Write → Type 0
AllValid w S [] = Unit {0}
AllValid w S (x ∷ l) = Valid w S x × AllValid w S l
