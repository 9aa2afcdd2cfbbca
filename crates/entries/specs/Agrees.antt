-- What the checks ask of the words in the lent slices.
use Rattle.std.specs.Prelude.{ℕ, ◌+◌, ◌-◌, ◌/◌, ◌%◌, ◌≤◌, ◌<◌, ◌≡◌, Bool, true, false, List, eqb}
use Rattle.table.specs.Table.{entry}
use Rattle.bits.specs.Map.{map_bit}
use Rattle.tags.specs.Tag.{flags, START, FREE}
use Rattle.tags.specs.Decode.{Busy}
use Rattle.lent.specs.Slices.{grains, tag_of, next_at, prev_at, head_at}
use Rattle.entries.specs.Answers.{chosen}

-- the tag of grain y, as the memory has it
abbrev pub entry_tag : List ℕ → ℕ → ℕ
entry_tag t y = tag_of (entry t y)

-- a tag with which a free block starts
abbrev pub FreeStart : ℕ → Type 0
FreeStart v = (v % flags ≡ START + FREE) × (1 ≤ v / flags)

-- a free block starts at x
abbrev pub Begins : List ℕ → List ℕ → ℕ → Type 0
Begins a t x = (x < grains a) × FreeStart (entry_tag t x)

-- a free block of s grains ends with the grain of this tag
abbrev pub FreeEnd : ℕ → ℕ → Type 0
FreeEnd v s = (v % START ≡ FREE) × (v / flags ≡ s)

-- all tags of the free block at x, which has s grains, agree
abbrev pub Whole : List ℕ → List ℕ → ℕ → ℕ → Type 0
Whole a t x s = Begins a t x × ((x + s < grains a) × (FreeEnd (entry_tag t (x + s - 1)) s × Busy (entry_tag t (x + s))))

-- the block y, whose next is x and whose previous is p, stands in list k
abbrev pub Entered : List ℕ → List ℕ → List ℕ → ℕ → ℕ → ℕ → ℕ → Type 0
Entered a l t k y x p =
    Begins a t x
    × ((prev_at a x ≡ chosen (eqb x y) p y)
    × (Begins a t p
    × ((next_at a p ≡ chosen (eqb p y) x y)
    × ((map_bit l k ≡ 1)
    × (chosen (eqb (head_at l k) y) 1 0 ≡ chosen (eqb p y) 1 0)))))

-- the head h of a list is a free block and its own previous
abbrev pub Leads : List ℕ → List ℕ → ℕ → Type 0
Leads a t h = Begins a t h × (prev_at a h ≡ h)

-- the head h of a list, whose mark is as b says
abbrev pub Heads : List ℕ → List ℕ → Bool → ℕ → Type 0
Heads a t true h = Leads a t h
Heads a t false h = Unit {0}
