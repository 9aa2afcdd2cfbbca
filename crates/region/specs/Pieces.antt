-- The pieces of a region that are as long as a piece can be, 4096 grains each, laid out one after the other: what is written
-- for i of them (`full_writes`), and what holds behind each (`Laid`). Every one becomes the head that the next is put before.
use Rattle.std.specs.Prelude.{ℕ, zero, suc, ◌+◌, ◌*◌, ◌≤◌, ◌<◌, ◌≡◌, refl, List, [], ◌++◌, length}
use Rattle.std.proofs.Math.Numerals.{add-one}
use Rattle.std.proofs.Common.{arith, ◌∙◌}
use Rattle.std.proofs.Math.Logic.{inr}
use Rattle.bits.specs.Map.{map_words}
use Rattle.bits.specs.Map.{lists as list_count}
use Rattle.script.specs.Memory.{Write}
use Rattle.sound.specs.RegionPlan.{piece_writes}
use Rattle.slices.specs.Decode.{grains}
use Rattle.slices.proofs.Decode.{grains_keep}
use Rattle.header.specs.Turned.{grains_few, turned_is}
use Rattle.header.specs.Told.{link_leads}
use Rattle.free_list.specs.Lent.{Leads, link}
use Rattle.free_list.specs.Written.{Written, written_none, written_then}
use Rattle.region.specs.Piece.{Placeable}

-- the head behind i pieces from g on, where h was the head
unfoldable pub head_of : ℕ → ℕ → ℕ → ℕ
head_of g h zero = h
head_of g h (suc i) = g + 4096 * i

-- the writes of i pieces
unfoldable pub full_writes : ℕ → ℕ → ℕ → List Write
full_writes g h zero = []
full_writes g h (suc i) = full_writes g h i ++ piece_writes (g + 4096 * i) 4096 (head_of g h i)

-- i pieces can be laid out before h
pub record Layable (a l : List ℕ) (g i h : ℕ) : Type 0 where
  pub inside : g + 4096 * i ≤ grains 8 a
  pub heads : map_words + list_count ≤ length l
  pub before : Leads a h

-- i pieces were, and the list's head is now the word v
pub record Laid (a l : List ℕ) (g h i v : ℕ) (b m : List ℕ) : Type 0 where
  pub leads : Leads b v
  pub head : link b v ≡ head_of g (link a h) i
  pub written : Written a l (full_writes g (link a h) i) b m

-- none were
pub laid_none : (a l : List ℕ) (g h : ℕ) → Leads a h → Laid a l g h 0 h a l
unfolding head_of full_writes
laid_none a l g h p = record { leads = p; head = refl; written = written_none a l }

module _ (a l : List ℕ) (g h i n v : ℕ) (b m : List ℕ) (p : Layable a l g n h) (more : i < n) (same : length b ≡ length a) (table : length m ≡ length l)
    (k : Laid a l g h i v b m) where
  -- the next one can be
  pub next_placeable : Placeable b m (g + 4096 * i) 4096 v
  next_placeable = record {
    long = omega arith;
    short = omega arith;
    inside = rw (grains_keep 8 a b same) (omega (arith, p.inside));
    heads = rw table p.heads;
    before = k.leads;
  }

  -- and then one more was
  pub laid_more : length a < 18446744073709551616 → (w : ℕ) (c o : List ℕ) → w ≡ 32 * (g + 4096 * i) → length c ≡ length b
      → Written b m (piece_writes (g + 4096 * i) 4096 (link b v)) c o → Laid a l g h (i + 1) w c o
  unfolding head_of full_writes
  laid_more s w c o w_is kept q = record {
    leads = inr (rw (w_is, turned_is (g + 4096 * i)) inside);
    head = link_leads (grains 8 c) w (g + 4096 * i) inside (grains_few c (rw (kept ∙ same) s)) w_is ∙ rw add-one;
    written = rw add-one (written_then k.written (rw k.head at q));
  }
    where
      inside : g + 4096 * i < grains 8 c
      inside = rw (grains_keep 8 a c (kept ∙ same)) (omega (arith, p.inside))
