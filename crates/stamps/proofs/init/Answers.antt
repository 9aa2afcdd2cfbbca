-- `stamps::init` meets its contract: a table filled with zeros is one of zeros. Assumes nothing.
use Rattle.std.specs.Prelude.{ℕ, ◌≤◌, ◌<◌, ◌≡◌, List, length, get_or, replicate}
use Rattle.std.proofs.Common.{rules, ⊎_elim}
use Rattle.std.proofs.lemmas.List.{length-replicate, get_or-replicate}
use Rattle.std.proofs.Math.ListN.{get_or-eq_default}
use Rattle.choice.specs.Choice.{le?}
use Rattle.table.specs.Table.{entry}
use Rattle.lent.specs.Empty.{Zeros}
use Rattle.stamps.proofs.init.Goals as goal

-- a list of one number says it also after its end, where that is what is said there
one_number : (n i v : ℕ) → get_or (replicate n v) i v ≡ v
one_number n i v = ⊎_elim
    (λ (a : n ≤ i). get_or-eq_default (replicate n v) v (rw (length-replicate n v) a))
    (λ (a : i < n). get_or-replicate n i v v a)
    (le? n i)

all_zeros : (t u : List ℕ) → length u ≡ length t → u ≡ replicate (length t) 0 → Zeros t u
unfolding entry
all_zeros t u l e = record { size = l; zero = λ i. rw e (one_number (length t) i 0) }

pub returns : goal.returns
returns c = record {
  lists = all_zeros _ _ (rw c.fill.ensures (length-replicate _ _)) c.fill.ensures;
  tags = all_zeros _ _ c.fill-2.ensures.len (c.fill-2.ensures.after (λ y e. search rules));
  regions = c.store.ensures;
}
