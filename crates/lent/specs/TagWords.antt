-- Entries of the tags, tested as they are: what the memory says of a tag (`tag_of r`), in terms of the entry r.
use Rattle.std.specs.Prelude.{ℕ, ◌+◌, ◌*◌}
use Rattle.choice.specs.Choice.{if_eq}
use Rattle.machine.specs.Machine.{piece}
use Rattle.tags.specs.Tag.{START, FREE, SMALL, LARGE}

-- P exactly when Q
abbrev pub Exactly : Type 0 → Type 0 → Type 0
Exactly P Q = (P → Q) × (Q → P)

-- ---- the entries of a block's tags

abbrev pub free_entry : ℕ → ℕ
free_entry s = (START + FREE) * piece + s

abbrev pub end_entry : ℕ → ℕ
end_entry s = FREE * piece + s

abbrev pub small_entry : ℕ → ℕ
small_entry s = (START + SMALL) * piece + s

abbrev pub large_entry : ℕ → ℕ
large_entry s = (START + LARGE) * piece + s

abbrev pub start_entry : ℕ → ℕ
start_entry s = START * piece + s

abbrev pub pad_entry : ℕ → ℕ
pad_entry p = LARGE * piece + p

abbrev pub first_entry : ℕ → ℕ → ℕ
first_entry s d = if_eq d 1 (small_entry s) (if_eq d 2 (large_entry s) (start_entry s))
