-- The table of the regions on slices that stand for a heap: it counts no more regions than it holds. So there is room for
-- one more, or a region is refused with 6 before anything else is looked at.
use Rattle.std.specs.Prelude.{ℕ, ◌+◌, ◌*◌, ◌≤◌, ◌<◌, ◌≡◌, length}
use Rattle.std.proofs.Common.{arith, ⊎_elim}
use Rattle.std.proofs.Math.ListN.{get_or-eq_default}
use Rattle.choice.specs.Choice.{le?}
use Rattle.table.specs.Table.{entry}
use Rattle.definition.specs.Calls.{Heap}
use Rattle.slices.specs.Slices.{Slices}
use Rattle.slices.proofs.Slices.{memory_table}
use Rattle.calls.specs.Performs.{most_of, Stand}

-- an entry behind the table is read as 0
entry_behind : (S : Slices) (i : ℕ) → length S.regions ≤ i → entry S.regions i ≡ 0
unfolding entry
entry_behind S i h = get_or-eq_default S.regions 0 h

-- so no region that was given has its entry there
pub count_most : (S : Slices) (h : Heap) → Stand S h → entry S.regions 0 ≤ most_of S
count_most S h o = ⊎_elim
    (λ (e : entry S.regions 0 ≤ most_of S). e)
    (λ (e : most_of S < entry S.regions 0).
    let i = most_of S in
    let k = o.given.sane i (rw (memory_table 8 S 0) e) in
    absurd (omega (arith, k.0, memory_table 8 S (2 * i + 2), entry_behind S (2 * i + 2) (omega arith))))
    (le? (entry S.regions 0) (most_of S))
