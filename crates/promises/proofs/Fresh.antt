-- After init the slices stand for a heap to which nothing was given, whatever was in them: all its grains are gaps, and all its
-- lists are empty.
use Rattle.std.specs.Prelude.{ℕ, ◌≡◌, List, length}
use Rattle.std.proofs.Common.{arith, ap, sym, ◌∙◌, subst}
use Rattle.table.specs.Table.{entry, enter_length, entry_enter}
use Rattle.definition.specs.Calls.{empty}
use Rattle.machine.specs.Machine.{words}
use Rattle.lent.specs.Slices.{Slices, tag_words}
use Rattle.lent.specs.Held.{byte_values, Under}
use Rattle.lent.proofs.Held.{enter_under}
use Rattle.lent.proofs.Empty.{zeros_sound, zeros_under}
use Rattle.lent.specs.Kept.{Lengths}
use Rattle.promises.specs.Performs.{grains_of, AllLong, Sized, Stand}
use Rattle.promises.specs.Begins.{Begun}

module _ (S T : Slices) (l : AllLong S) (b : Begun S T) where
  pub begun_lengths : Lengths S T
  begun_lengths = record { arena = ap length b.arena; lists = b.lists.size; tags = b.tags.size; regions = ap length b.regions ∙ enter_length S.regions 0 0 }

  -- no region is counted
  pub begun_count : entry T.regions 0 ≡ 0
  begun_count = ap (λ (t : List ℕ). entry t 0) b.regions ∙ entry_enter S.regions 0 0 l.some

  -- the slices stand for the empty heap
  pub begun_stands : Stand T (empty (grains_of T))
  begun_stands = zeros_sound T b.tags.zero b.lists.zero begun_count

  -- and they are still what a function can be lent
  pub begun_sized : Sized S → Sized T
  begun_sized z = record {
    held = record {
      arena = subst (Under byte_values) (sym b.arena) z.held.arena;
      lists = zeros_under words T.lists (omega arith) b.lists.zero;
      tags = zeros_under tag_words T.tags (omega arith) b.tags.zero;
      regions = subst (Under words) (sym b.regions) (enter_under words S.regions 0 0 (omega arith) z.held.regions);
    };
    arena = rw begun_lengths.arena z.arena;
    regions = rw begun_lengths.regions z.regions;
  }
