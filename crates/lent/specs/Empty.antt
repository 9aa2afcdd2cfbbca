-- Tables with nothing but 0 in them (`Zeros`), and what such slices stand for: a heap to which nothing was given, whatever is
-- in the arena.
use Rattle.std.specs.Prelude.{ℕ, ◌≡◌, List, length}
use Rattle.table.specs.Table.{entry}

-- u is as long as t, and 0 in every entry
pub record Zeros (t u : List ℕ) : Type 0 where
  pub size : length u ≡ length t
  pub zero : (i : ℕ) → entry u i ≡ 0
