-- What holds on any memory, damaged or not, where a check lets a call go on: what it looked at hangs together. Each field
-- below is a fact whose contrary is a contradiction in the records, and a call that meets it is refused with 5; but a
-- payload that is not live is refused with 3 (`Refused` says so). So these theorems say which damage is found.
use Rattle.std.specs.Prelude.{ℕ, ◌+◌, ◌-◌, ◌*◌, ◌/◌, ◌%◌, ◌≤◌, ◌<◌, ◌≡◌, ◌⊎◌}
use Rattle.class.specs.Class.{list_of}
use Rattle.script.specs.Memory.{Memory, Size, Before, Next, Prev, Mark, Live, none, root}
use Rattle.sound.specs.Checks.{is_free, is_used, word_of, Entry, Beside, nobody, somebody, Owner}
use Rattle.sound.specs.Inverted.{Busy}

-- ---- links

-- a link to x that is none, or whose grain leads back to y
abbrev pub Back : ℕ → Memory → ℕ → ℕ → ℕ → Type 0
Back n m f x y = (x ≡ none) ⊎ ((x < n) × (m f x ≡ y))

-- ---- entries of the lists

-- y is the head of list k, behind nothing; or the list has another head, and the block before y leads to it
abbrev pub LedTo : ℕ → Memory → ℕ → ℕ → ℕ → Type 0
LedTo n m k y p = ((p ≡ none) × (m Next (root k) ≡ y)) ⊎ ((m Next (root k) < n) × (m Next (root k) ≡ y → ⊥) × (p < n) × (m Next p ≡ y))

-- the entry e of y in list k
pub record EntryChecked (n : ℕ) (m : Memory) (k y : ℕ) (e : Entry) : Type 0 where
  pub next : e.next ≡ m Next y
  pub prev : e.prev ≡ m Prev y
  pub back : Back n m Prev e.next y
  pub marked : m Mark k ≡ 1
  pub head : LedTo n m k y e.prev

-- ---- the head of a list: none where the list is not marked, else a grain behind nothing

pub record HeadChecked (n : ℕ) (m : Memory) (k h : ℕ) : Type 0 where
  pub is : h ≡ m Next (root k)
  pub marked : ((h ≡ none) × (m Mark k ≡ 0)) ⊎ ((h < n) × (m Mark k ≡ 1) × (m Prev h ≡ none))

-- ---- the blocks beside a used one

-- a free block of t grains at y, behind a used one
pub record BehindFree (n c : ℕ) (m : Memory) (y t : ℕ) (e : Entry) : Type 0 where
  pub word : word_of (m Size y) ≡ is_free t
  pub list : list_of t < 16 * c
  pub busy : Busy (word_of (m Size (y + t)))
  pub link : m Before (y + t) ≡ y
  pub entry : EntryChecked n m (list_of t) y e

-- what stands at y, behind a used block
abbrev pub BehindChecked : ℕ → ℕ → Memory → ℕ → Beside → Type 0
BehindChecked n c m y nobody = Busy (word_of (m Size y))
BehindChecked n c m y (somebody t e) = BehindFree n c m y t e

-- a free block of t grains before a used one at x
pub record BeforeFree (n c : ℕ) (m : Memory) (x t : ℕ) (e : Entry) : Type 0 where
  pub low : m Before x < x
  pub word : word_of (m Size (m Before x)) ≡ is_free t
  pub meets : m Before x + t ≡ x
  pub start : x - t ≡ m Before x
  pub list : list_of t < 16 * c
  pub entry : EntryChecked n m (list_of t) (m Before x) e

-- a used block that ends at x
pub record BeforeUsed (m : Memory) (x : ℕ) : Type 0 where
  pub grains : ℕ
  pub low : m Before x < x
  pub word : word_of (m Size (m Before x)) ≡ is_used grains
  pub meets : m Before x + grains ≡ x

-- what stands before the block at x
abbrev pub BeforeChecked : ℕ → ℕ → Memory → ℕ → Beside → Type 0
BeforeChecked n c m x nobody = (m Before x ≡ none) ⊎ BeforeUsed m x
BeforeChecked n c m x (somebody t e) = BeforeFree n c m x t e

-- ---- the block of a payload at q

-- half a grain before it, or as the word before it says
abbrev pub FoundAt : Memory → ℕ → ℕ → Type 0
FoundAt m q x = ((q % 2 ≡ 1) × (x ≡ q / 2)) ⊎ ((q % 2 ≡ 1 → ⊥) × (x ≡ m Prev (q / 2 - 1)) × (x < q / 2))

-- the used block o of a live payload
pub record OwnerChecked (m : Memory) (q : ℕ) (o : Owner) : Type 0 where
  pub live : m Live q ≡ 1
  pub found : FoundAt m q o.at
  pub word : word_of (m Size o.at) ≡ is_used o.grains
  pub inside : q ≤ 2 * (o.at + o.grains)
  pub link : m Before (o.at + o.grains) ≡ o.at
