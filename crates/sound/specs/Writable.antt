-- Every planned write can be stored, on any memory that a decoder may show, damaged or not: its place is in the arena or in
-- a table, and its value is a word of that field. So no plan writes outside, whatever the damage.
use Rattle.std.specs.Prelude.{ℕ, ◌+◌, ◌*◌, ◌≤◌, ◌<◌, ◌≡◌, List, [], ◌∷◌, ◌⊎◌}
use Rattle.script.specs.Memory.{Memory, Size, Before, Next, Prev, Mark, Live, none, root, free_word, used_word, last_word, Write, ◌at◌≔◌}
use Rattle.sound.specs.Checks.{Word, is_free, is_used, is_last, is_bad, word_of}

-- ---- what a decoder shows: blocks end before the arena does, since a sentinel stands behind them

abbrev pub Fits : ℕ → ℕ → Word → Type 0
Fits n x (is_free s) = (1 ≤ s) × (x + s + 1 ≤ n)
Fits n x (is_used s) = (1 ≤ s) × (x + s + 1 ≤ n)
Fits n x is_last = x < n
Fits n x is_bad = Unit {0}

abbrev pub Decoded : ℕ → Memory → Type 0
Decoded n m = (x : ℕ) → Fits n x (word_of (m Size x))

-- ---- what can be stored

-- a link: none, or a grain
abbrev pub Link : ℕ → ℕ → Type 0
Link n v = (v ≡ none) ⊎ (v < n)

-- a size word for the grain x
pub data SizeWord (n x v : ℕ) : Type 0 where
  free_size : (s : ℕ) → v ≡ free_word s → 1 ≤ s → x + s + 1 ≤ n → SizeWord n x v
  used_size : (s : ℕ) → v ≡ used_word s → 1 ≤ s → x + s + 1 ≤ n → SizeWord n x v
  sentinel : v ≡ last_word → SizeWord n x v

-- where a next link stands: at a grain, or at a list's root
abbrev pub NextPlace : ℕ → ℕ → ℕ → Type 0
NextPlace n c x = (x < n) ⊎ ((k : ℕ) × (x ≡ root k) × (k < 16 * c))

-- by the field. Take, return and resize write nothing in the table of regions, and so nothing of it can be stored here;
-- what is written there when a region is given, `RegionChecked` tells
pub data Writable (n c : ℕ) : Write → Type 0 where
  at_size : {x v : ℕ} → x < n → SizeWord n x v → Writable n c (Size at x ≔ v)
  at_before : {x v : ℕ} → x < n → Link n v → Writable n c (Before at x ≔ v)
  at_next : {x v : ℕ} → NextPlace n c x → Link n v → Writable n c (Next at x ≔ v)
  at_prev : {x v : ℕ} → x < n → Link n v → Writable n c (Prev at x ≔ v)
  at_mark : {k v : ℕ} → k < 16 * c → v ≤ 1 → Writable n c (Mark at k ≔ v)
  at_live : {q v : ℕ} → q < 2 * n → v ≤ 1 → Writable n c (Live at q ≔ v)

-- all writes of a list
abbrev pub AllWritable : ℕ → ℕ → List Write → Type 0
AllWritable n c [] = Unit {0}
AllWritable n c (w ∷ l) = Writable n c w × AllWritable n c l
