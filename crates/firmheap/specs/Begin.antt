-- The empty heap: refused where a table is too short, or the tables are made empty.
use Rattle.std.specs.Prelude.{ℕ, ◌^◌, ◌≤◌, ◌<◌, refl, List, length}
use Rattle.std.proofs.Common.{arith}
use Rattle.sound.specs.Runs.{yes, not}
use Rattle.free_list.specs.Lent.{lent}
use Rattle.tables.specs.Length.{LongEnough}
use Rattle.tables.specs.Initial.{Initial}
use Rattle.calls.specs.Begins.{short, begun}
use Rattle.calls.proofs.Promised.{initialised}
use Rattle.firmheap.specs.Contract.{Initialises}

module _ (a l v t : List ℕ) (z : length a < 2 ^ 64) where
  -- a table is too short
  pub init_short : (LongEnough (length a) (length l) (length v) → ⊥) → Initialises a l v t (not 6) l v t
  init_short e = initialised (lent a l v t) (not 6) (lent a l v t) z (short (λ i. e i.tables))

  -- the table of the regions has no entry
  pub init_none : length t < 1 → Initialises a l v t (not 6) l v t
  init_none e = initialised (lent a l v t) (not 6) (lent a l v t) z (short (λ i. omega (arith, i.some)))

  -- done
  pub init_done : (m o u : List ℕ) → LongEnough (length a) (length l) (length v) → 1 ≤ length t → length t < 2 ^ 64 → Initial l v t m o u
      → Initialises a l v t (yes 0) m o u
  init_done m o u e n f i = initialised (lent a l v t) (yes 0) (lent a m o u) z
      (begun (lent a m o u) (record { tables = e; some = n; most = f }) (record { arena = refl; tables = i }))
