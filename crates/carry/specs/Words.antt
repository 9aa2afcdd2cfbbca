-- A field of the memory is its word of the arena, or stands in a table.
use Prim.Native.Nat.{ℕ, ◌+◌, ◌*◌}
use Rattle.std.specs.Prelude.{List}
use Rattle.word.specs.Word.{word_at}

-- word f of grain x
abbrev pub word : ℕ → ℕ → List ℕ → ℕ
word f x a = word_at 8 a (4 * x + f)
