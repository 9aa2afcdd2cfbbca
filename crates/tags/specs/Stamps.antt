-- Changes of the tags as functions: a block's tags go, or come. What each leaves alone, and what it makes of the grains.
-- Between the two the grains after the first are blank, and the first has any tag: what is written over is not cleared.
use Rattle.std.specs.Prelude.{ℕ, suc, ◌+◌, ◌-◌, ◌/◌, ◌≤◌, ◌<◌, ◌≡◌, ◌⊎◌}
use Rattle.choice.specs.Choice.{if_eq, if_le, upd}
use Rattle.tags.specs.Tag.{free_tag, end_tag, start_tag, first_tag, pad_tag}

-- ---- what is said of the k grains at x

-- those after the first are like a used block's, with its payload at d
abbrev pub Padded : (ℕ → ℕ) → ℕ → ℕ → ℕ → Type 0
Padded t x k d = (i : ℕ) → 1 ≤ i → i < k → t (x + i) ≡ if_eq (suc i) (d / 2) (pad_tag (d / 2)) 0

-- those after the first are blank
abbrev pub Bare : (ℕ → ℕ) → ℕ → ℕ → Type 0
Bare t x k = (i : ℕ) → 1 ≤ i → i < k → t (x + i) ≡ 0

-- those between the first and the last are blank
abbrev pub Hollow : (ℕ → ℕ) → ℕ → ℕ → Type 0
Hollow t x k = (i : ℕ) → 1 ≤ i → suc i < k → t (x + i) ≡ 0

-- y is none of them
abbrev pub Outside : ℕ → ℕ → ℕ → Type 0
Outside x k y = (y < x) ⊎ (x + k ≤ y)

-- ---- the changes, one for each list of writes in Writes

abbrev pub clear_free : (ℕ → ℕ) → ℕ → ℕ → ℕ → ℕ
clear_free t x s = upd t (x + s - 1) 0

abbrev pub clear_pad : (ℕ → ℕ) → ℕ → ℕ → ℕ → ℕ
clear_pad t x d = if_le 2 (d / 2) (upd t (x + d / 2 - 1) 0) t

abbrev pub lay_pad : (ℕ → ℕ) → ℕ → ℕ → ℕ → ℕ
lay_pad t x d = if_le 2 (d / 2) (upd t (x + d / 2 - 1) (pad_tag (d / 2))) t

abbrev pub lay_first : (ℕ → ℕ) → ℕ → ℕ → ℕ → ℕ → ℕ
lay_first t x s d = upd t x (first_tag s d)

abbrev pub lay_free : (ℕ → ℕ) → ℕ → ℕ → ℕ → ℕ
lay_free t x s = upd (upd t (x + s - 1) (end_tag s)) x (free_tag s)

abbrev pub split_stamp : (ℕ → ℕ) → ℕ → ℕ → ℕ → ℕ → ℕ → ℕ
split_stamp t x s k d = if_eq k s (lay_first t x k d) (lay_free (lay_first t x k d) (x + k) (s - k))

abbrev pub clear_after : (ℕ → ℕ) → ℕ → ℕ → ℕ → ℕ
clear_after t y b = if_eq b 0 t (upd t y 0)

abbrev pub clear_before : (ℕ → ℕ) → ℕ → ℕ → ℕ → ℕ
clear_before t x a = if_eq a 0 t (upd (upd t x 0) (x - 1) 0)

abbrev pub clear_used : (ℕ → ℕ) → ℕ → ℕ → ℕ → ℕ → ℕ → ℕ → ℕ
clear_used t x s d a b = clear_before (clear_after (clear_pad t x d) (x + s) b) x a

abbrev pub clear_room : (ℕ → ℕ) → ℕ → ℕ → ℕ → ℕ
clear_room t y b = if_eq b 0 t (upd (upd t y 0) (y + b - 1) 0)

abbrev pub allocate_stamp : (ℕ → ℕ) → ℕ → ℕ → ℕ → ℕ → ℕ → ℕ
allocate_stamp t x s k d = split_stamp (lay_pad (clear_free t x s) x d) x s k d

abbrev pub deallocate_stamp : (ℕ → ℕ) → ℕ → ℕ → ℕ → ℕ → ℕ → ℕ → ℕ
deallocate_stamp t x s d a b = lay_free (clear_used t x s d a b) (x - a) (a + (s + b))

abbrev pub stretch_stamp : (ℕ → ℕ) → ℕ → ℕ → ℕ → ℕ → ℕ → ℕ → ℕ
stretch_stamp t x s d b k = split_stamp (clear_room t (x + s) b) x (s + b) k d

abbrev pub down_stamp : (ℕ → ℕ) → ℕ → ℕ → ℕ → ℕ → ℕ → ℕ → ℕ → ℕ → ℕ
down_stamp t x s e a b k d = allocate_stamp (clear_used t x s e a b) (x - a) (a + (s + b)) k d

abbrev pub piece_stamp : (ℕ → ℕ) → ℕ → ℕ → ℕ → ℕ
piece_stamp t x k = upd (lay_free t x (k - 1)) (x + (k - 1)) (start_tag 1)
