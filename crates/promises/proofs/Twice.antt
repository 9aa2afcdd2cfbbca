-- T6 of two calls: a payload that was given back is refused with 3 when it is given back again, or resized, before anything else
-- was done; whatever was written into the arena and the lists meanwhile.
use Rattle.std.specs.Prelude.{ℕ, ◌≡◌, refl, List, []}
use Rattle.definition.specs.Blocks.{Block}
use Rattle.request.specs.Asked.{InRange}
use Rattle.request.specs.Returned.{Suits}
use Rattle.refines.specs.Runs.{Reply, yes, not}
use Rattle.lent.specs.Slices.{Slices}
use Rattle.promises.specs.Bytes.{deallocate, reallocate}
use Rattle.promises.specs.Performs.{LongEnough, Sized, Performs, Rowed}
use Rattle.promises.proofs.One.{performs_lengths}
use Rattle.promises.proofs.Damage.{enough_keep}
use Rattle.promises.proofs.Armours.{performs_armour}
use Rattle.promises.proofs.Owners.{deallocate_refused_exactly, reallocate_refused_exactly}
use Rattle.promises.specs.Runs.{Struck}
use Rattle.promises.proofs.Havocs.{struck_lengths, struck_row}

module _ (S : Slices) (x v : ℕ) (T U : Slices) (z : Sized S) (l : LongEnough S) (xs : List Block) (o : Rowed S xs) (p : Performs S (deallocate x) (yes v) T) (d : Struck T U) where
  long : LongEnough U
  long = enough_keep T U (struck_lengths T U d) (enough_keep S T (performs_lengths S (deallocate x) (yes v) T p) l)

  pub returned_twice : (r : Reply) (W : Slices) → Performs U (deallocate x) r W → r ≡ not 3
  returned_twice r W q =
      let a = performs_armour S (deallocate x) (yes v) T z p xs (λ k. []) o in
      (deallocate_refused_exactly U x r W q long a.blocks (struck_row T U d a.blocks a.row)).1 (a.lends v refl)

  pub returned_resized : (n a : ℕ) → InRange n a → Suits x a → (r : Reply) (W : Slices) → Performs U (reallocate x n a) r W → r ≡ not 3
  returned_resized n a i s r W q =
      let w = performs_armour S (deallocate x) (yes v) T z p xs (λ k. []) o in
      (reallocate_refused_exactly U x n a r W q long i s w.blocks (struck_row T U d w.blocks w.row)).1 (w.lends v refl)
