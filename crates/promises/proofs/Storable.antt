-- What follows from specs/Storable.antt.
use Rattle.std.specs.Prelude.{ℕ, ◌≤◌, ◌≡◌, refl, List, [], ◌∷◌, length}
use Rattle.std.proofs.Common.{arith, ap, sym, ◌∙◌, subst}
use Rattle.std.proofs.Math.Path.{fun_ext}
use Rattle.definition.specs.Blocks.{Block}
use Rattle.script.specs.Memory.{Memory, Table, Write, Untouched}
use Rattle.script.specs.Script.{ok, run}
use Rattle.machine.specs.Machine.{words, classes}
use Rattle.tags.specs.Tag.{Tag}
use Rattle.tags.specs.Each.{Each}
use Rattle.plans.specs.Deeds.{Plan, writes, after}
use Rattle.plans.specs.Calls.{Call, Allocate, Deallocate, Reallocate, Insert, Append, Fair}
use Rattle.plans.specs.Regions.{region_script}
use Rattle.plans.specs.Storable.{Shows, Storable, at_tag, at_next, at_prev, at_head, at_mark, at_table}
use Rattle.plans.proofs.StorableCalls.{allocate_storable, deallocate_storable}
use Rattle.plans.proofs.StorableRegion.{region_storable}
use Rattle.plans.proofs.StorableResize.{reallocate_storable}
use Rattle.armour.specs.Turns.{Armoured}
use Rattle.armour.proofs.Turns.{row_same}
use Rattle.armour.specs.Row.{Row}
use Rattle.lent.specs.Slices.{Slices, memory_of, stores, Valid, AllValid}
use Rattle.lent.proofs.Kept.{grains_keep}
use Rattle.lent.proofs.Fields.{by_field}
use Rattle.lent.proofs.Stored.{stores_memory}
use Rattle.lent.proofs.Shown.{shows}
use Rattle.lent.proofs.Ample.{storable_valid}
use Rattle.promises.specs.Bytes.{ByteCall, Asks, take, back, resize, give, follow}
use Rattle.promises.specs.Performs.{grains_of, most_of, LongEnough, Long, Sized, outcome, stored, Rowed}
use Rattle.promises.specs.Terms.{SameTables}
use Rattle.promises.proofs.Carrying.{stored_lengths, stored_tables}
use Rattle.refines.proofs.Tables.{allocate_untouched, deallocate_untouched, reallocate_untouched}
use Rattle.promises.specs.Storable.{LongFor, InTables}

-- as they are where it goes on
pub goes_long : (S : Slices) (k : ByteCall) (K : Call) → Long S k → Asks k K → LongFor S K
goes_long S k K l (take r) = l
goes_long S k K l (back e) = l
goes_long S k K l (resize r s) = l
goes_long S k K l give = l
goes_long S k K l follow = l

-- what can be stored where there is a table of regions can be without one, if nothing is written there
regionless_one : (S : Slices) → LongEnough S → (w : Write) → Storable (grains_of S) classes words 0 w → (w.field ≡ Table → ⊥) → Valid S w
regionless_one S l w (at_tag h k) n = (omega (arith, l.tags), k)
regionless_one S l w (at_next h k) n = (h, k)
regionless_one S l w (at_prev h k) n = (h, k)
regionless_one S l w (at_head h k) n = (omega (arith, l.lists), k)
regionless_one S l w (at_mark h k) n = (h, omega (arith, l.lists), k)
regionless_one S l w (at_table h k) n = absurd (n refl)

regionless_valid : (S : Slices) → LongEnough S → (w : List Write) → Each (Storable (grains_of S) classes words 0) w → Untouched Table w → AllValid S w
regionless_valid S l [] h n = tt
regionless_valid S l (w ∷ r) h n = (regionless_one S l w h.0 n.0, regionless_valid S l r h.1 n.1)

module _ (S : Slices) (z : Sized S) where
  seen : Shows (grains_of S) classes words (memory_of S)
  seen = shows S z.held z.arena

  region_valid : (behind g len : ℕ) (t : Plan) → LongEnough S → 1 ≤ length S.regions → run (memory_of S) (region_script (most_of S) behind (grains_of S) classes g len) ≡ ok t → AllValid S (writes t)
  region_valid behind g len t l some e = storable_valid (most_of S) S (record { lists = l.lists; tags = l.tags; regions = omega (arith, some) }) (writes t)
      (region_storable (most_of S) behind (grains_of S) classes g len (memory_of S) words seen (omega (arith, z.regions)) e)

  -- every write can be stored
  pub outcome_valid : (K : Call) (t : Plan) → LongFor S K → Fair K → outcome S K ≡ ok t → AllValid S (writes t)
  outcome_valid (Allocate p a) t l fair e = regionless_valid S l (writes t)
      (allocate_storable (grains_of S) classes p a (memory_of S) fair words 0 seen e) (allocate_untouched (grains_of S) classes p a (memory_of S) e)
  outcome_valid (Deallocate q) t l fair e = regionless_valid S l (writes t)
      (deallocate_storable (grains_of S) classes q (memory_of S) words 0 seen e) (deallocate_untouched (grains_of S) classes q (memory_of S) e)
  outcome_valid (Reallocate q p a) t l fair e = regionless_valid S l (writes t)
      (reallocate_storable (grains_of S) classes q p a (memory_of S) fair.0 words 0 seen e) (reallocate_untouched (grains_of S) classes q p a (memory_of S) e)
  outcome_valid (Insert g len) t l fair e = region_valid 0 g len t l.0 l.1 e
  outcome_valid (Append g len) t l fair e = region_valid 1 g len t l.0 l.1 e

  -- so what is stored is the memory after the plan
  pub stored_memory : (K : Call) (t : Plan) → LongFor S K → Fair K → outcome S K ≡ ok t → memory_of (stores S (writes t)) ≡ after (memory_of S) t
  stored_memory K t l fair e = stores_memory S (writes t) (outcome_valid K t l fair e)

-- ---- tables

-- is the same where the tables are
pub tables_field : (S T : Slices) → SameTables S T → (f : ℕ) → InTables f → (y : ℕ) → memory_of T f y ≡ memory_of S f y
unfolding memory_of
tables_field S T k f n y = by_field (λ g. InTables g → memory_of T g y ≡ memory_of S g y)
    (λ _. rw k.tags) (λ _. rw k.lists) (λ i. absurd (i.0 refl)) (λ i. absurd (i.1 refl)) (λ _. rw k.lists) (λ _. refl) (λ _. rw k.regions) (λ g _. refl)
    f n

-- the number of grains stays
pub stored_grains : (S : Slices) (K : Call) (t : Plan) → grains_of (stored S K t) ≡ grains_of S
stored_grains S K t = grains_keep S.arena (stored S K t).arena (stored_lengths S K t).arena

module _ (S : Slices) (z : Sized S) (K : Call) (t : Plan) (l : LongFor S K) (fair : Fair K) (e : outcome S K ≡ ok t) where
  -- what stands in tables is as in the memory after the plan, whether a payload was moved or not
  pub stored_field : (f : ℕ) → InTables f → memory_of (stored S K t) f ≡ after (memory_of S) t f
  stored_field f n =
      fun_ext (λ y. tables_field (stores S (writes t)) (stored S K t) (stored_tables S K t) f n y)
      ∙ ap (λ (m : Memory). m f) (stored_memory S z K t l fair e)

  -- so the tags and the regions are those of the blocks that the plan leaves
  pub stored_row : (xs ys : List Block) → Armoured (grains_of S) classes (memory_of S) xs t ys → Rowed (stored S K t) ys
  stored_row xs ys a = subst (λ (n : ℕ). Row n classes (memory_of (stored S K t)) ys) (sym (stored_grains S K t))
      (row_same (grains_of S) classes (after (memory_of S) t) (memory_of (stored S K t)) ys
      (stored_field Tag (omega arith, omega arith)) (stored_field Table (omega arith, omega arith)) a.row)
