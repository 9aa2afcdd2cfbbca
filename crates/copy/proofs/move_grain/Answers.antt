-- `copy::move_grain` meets its contract: four words are read, and then put one behind the other. Assumes nothing.
use Rattle.copy.specs.Words.{grain_moved}
use Rattle.copy.proofs.move_grain.Goals as goal

pub returns : goal.returns
returns c =
    rw (c.put-4.ensures, c.put-3.ensures, c.put-2.ensures, c.put.ensures, c.get-y.ensures, c.get-x.ensures, c.get-w.ensures, c.get-v.ensures)
    (grain_moved _ _ _ (λ i. (c.slice_known-1.given i).fits))
