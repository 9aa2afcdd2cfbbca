-- What follows from specs/Begins.antt.
use Rattle.std.specs.Prelude.{ℕ, ◌≡◌, List, length}
use Rattle.std.proofs.Common.{ap, ◌∙◌}
use Rattle.table.specs.Table.{entry, entry_enter, enter_length}
use Rattle.definition.specs.Calls.{empty}
use Rattle.slices.specs.Slices.{Slices}
use Rattle.slices.specs.Kept.{Lengths}
use Rattle.tables.specs.Fill.{filled_length}
use Rattle.tables.specs.Initial.{init_sound, empty_length}
use Rattle.calls.specs.Performs.{grains_of, Stand}
use Rattle.calls.specs.Storable.{Sized, AllLong}
use Rattle.calls.specs.Begins.{Begun}

module _ (S T : Slices) (l : AllLong S) (b : Begun S T) where
  -- all lengths stay
  pub begun_lengths : Lengths S T
  begun_lengths = record {
    arena = ap length b.arena;
    lists = ap length b.tables.heads ∙ empty_length S.lists l.tables.heads;
    live = ap length b.tables.bits ∙ filled_length S.live 0 (length S.live) 0;
    regions = ap length b.tables.count ∙ enter_length S.regions 0 0;
  }

  -- no region was given
  pub begun_count : entry T.regions 0 ≡ 0
  begun_count = ap (λ (t : List ℕ). entry t 0) b.tables.count ∙ entry_enter S.regions 0 0 l.some

  -- the slices stand for the empty heap
  pub begun_stands : Sized S → Stand T (empty (grains_of T))
  begun_stands z = init_sound T S.lists S.live S.regions (rw b.arena z) l.tables.heads l.some b.tables
