-- What follows from specs/Slices.antt.
use Rattle.std.specs.Prelude.{ℕ, suc, ◌-◌, ◌*◌, ◌≤◌, ◌≡◌}
use Rattle.std.proofs.Common.{arith}
use Rattle.std.proofs.Math.Path.{refl}
use Rattle.choice.specs.Choice.{le_yes, le_no}
use Rattle.table.specs.Table.{entry}
use Rattle.bits.specs.TableBit.{table_bit}
use Rattle.bits.specs.Map.{map_bit}
use Rattle.script.specs.Memory.{Size, Before, Next, Prev, Mark, Live, Table, none, root, pick}
use Rattle.slices.specs.Decode.{wrong_link}
use Rattle.slices.specs.Arena.{size_at, link_at, put_link}
use Rattle.slices.specs.Heads.{next_at, put_head}
use Rattle.slices.specs.Slices.{Slices, memory_of, with_arena, with_lists, with_next}

-- ---- read

module _ (w : ℕ) (S : Slices) (y : ℕ) where
  -- the words of a grain
  pub memory_size : memory_of w S Size y ≡ size_at w S.arena y
  unfolding memory_of
  memory_size = refl

  pub memory_before : memory_of w S Before y ≡ link_at w S.arena Before wrong_link y
  unfolding memory_of
  memory_before = refl

  pub memory_next : memory_of w S Next y ≡ next_at w S.arena S.lists y
  unfolding memory_of
  memory_next = refl

  pub memory_prev : memory_of w S Prev y ≡ link_at w S.arena Prev wrong_link y
  unfolding memory_of
  memory_prev = refl

  -- the bits and entries of the tables
  pub memory_mark : memory_of w S Mark y ≡ map_bit S.lists y
  unfolding memory_of
  memory_mark = refl

  pub memory_live : memory_of w S Live y ≡ table_bit S.live y
  unfolding memory_of
  memory_live = refl

  pub memory_table : memory_of w S Table y ≡ entry S.regions y
  unfolding memory_of
  memory_table = refl

-- ---- the two kinds of next

-- of a root
pub store_root : (w : ℕ) (S : Slices) (k v : ℕ) → with_next w S (root k) v ≡ with_lists S (put_head (4 * w) S.lists k v)
store_root w S k v =
    let h : suc none ≤ root k = omega arith in
    let e : root k - suc none ≡ k = omega arith in
    simp (le_yes, e)

-- of a grain
pub store_next : (w : ℕ) (S : Slices) (g v : ℕ) → g ≤ none → with_next w S g v ≡ with_arena S (put_link w S.arena Next g v)
store_next w S g v h = let n : suc none ≤ g → ⊥ = omega arith in simp le_no
