-- What a stored word says, and which word is stored for a number: sizes and links. A grain has u bytes, the arena n
-- grains. Sizes and links stand in bytes in a word and in grains in the memory; the two flags of a size are the same in
-- both. Any word has a reading: what can't be right is read as `wrong_size` or `wrong_link`. At the end the arena itself,
-- and how short it must be (`Wide`) so that each of its words holds what is to be stored.
use Rattle.std.specs.Prelude.{ℕ, suc, ◌+◌, ◌-◌, ◌*◌, ◌/◌, ◌%◌, ◌^◌, ◌≤◌, ◌<◌, ◌≡◌, List, ◌⊎◌, length}
use Rattle.choice.specs.Choice.{if_eq, if_le}
use Rattle.script.specs.Memory.{none, free_word, used_word, last_word}
use Rattle.sound.specs.Checks.{Word, is_free, is_used, is_last, is_bad}

-- how a size or a link that can't be right is read
abbrev pub wrong_size : ℕ
wrong_size = 2

abbrev pub wrong_link : ℕ
wrong_link = suc none

-- a list head is a word of eight bytes, whatever the arena's words are
abbrev pub head_bytes : ℕ
head_bytes = 8

-- ---- words to numbers

-- the size word v of the header at grain g
unfoldable pub size_of : ℕ → ℕ → ℕ → ℕ → ℕ
size_of u n g v =
    if_eq v (u + 3) last_word
    (if_eq (v / u) 0 wrong_size
    (if_le (g + v / u + 1) n
    (if_eq (v % u) 0 (free_word (v / u)) (if_eq (v % u) 1 (used_word (v / u)) wrong_size))
    wrong_size))

-- the link v, where top is the word for none
unfoldable pub link_of : ℕ → ℕ → ℕ → ℕ → ℕ
link_of u n top v = if_eq v top none (if_eq (v % u) 0 (if_le (v / u + 1) n (v / u) wrong_link) wrong_link)

-- ---- numbers to words

-- four times the grains and the flags: u times the grains and the flags
unfoldable pub size_word : ℕ → ℕ → ℕ
size_word u v = u * (v / 4) + v % 4

-- where top is the word for none
unfoldable pub link_word : ℕ → ℕ → ℕ → ℕ
link_word u top v = if_eq v none top (u * v)

-- the sizes that the header at grain g can say
pub data ValidSize (n g : ℕ) : ℕ → Type 0 where
  valid_free : (s : ℕ) → 1 ≤ s → g + s + 1 ≤ n → ValidSize n g (free_word s)
  valid_used : (s : ℕ) → 1 ≤ s → g + s + 1 ≤ n → ValidSize n g (used_word s)
  valid_last : ValidSize n g last_word

-- the links that a word can hold
abbrev pub ValidLink : ℕ → ℕ → Type 0
ValidLink n v = (v ≡ none) ⊎ (v < n)

-- ---- what any word says, where it says a block

-- a block of this size at g has a grain of the arena behind it
abbrev pub Inside : ℕ → ℕ → Word → Type 0
Inside n g (is_free s) = (1 ≤ s) × (g + s + 1 ≤ n)
Inside n g (is_used s) = (1 ≤ s) × (g + s + 1 ≤ n)
Inside n g is_last = Unit {0}
Inside n g is_bad = Unit {0}

-- ---- an arena with words of w bytes

-- a grain has four words
unfoldable pub grains : ℕ → List ℕ → ℕ
grains w a = length a / (4 * w)

-- the word for none
abbrev pub top_of : ℕ → ℕ
top_of w = 256 ^ w - 1

-- its bytes can be counted in a word, and in a list head
pub record Wide (w : ℕ) (a : List ℕ) : Type 0 where
  pub some : 1 ≤ w
  pub short : length a < 256 ^ w
  pub head : length a < 256 ^ head_bytes
  pub grainy : 4 * w + 3 < 256 ^ w
