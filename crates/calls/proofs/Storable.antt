-- What follows from specs/Storable.antt.
use Rattle.std.specs.Prelude.{ℕ, ◌≤◌, ◌≡◌, List, length}
use Rattle.std.proofs.Common.{arith, sym, subst}
use Rattle.script.specs.Memory.{Table, Write}
use Rattle.script.specs.Script.{ok}
use Rattle.sound.specs.Plans.{Plan}
use Rattle.sound.specs.Writable.{AllWritable}
use Rattle.sound.proofs.WritableCalls.{take_writable, back_writable}
use Rattle.sound.proofs.WritableResize.{resize_writable}
use Rattle.sound.proofs.WritableRegion.{region_writable}
use Rattle.sound.specs.RegionChecked.{RegionChecked}
use Rattle.sound.proofs.RegionChecked.{region_checked}
use Rattle.slices.proofs.Decode.{grains_le}
use Rattle.slices.specs.Slices.{Slices, memory_of, AllValid}
use Rattle.slices.proofs.Kept.{all_valid_append}
use Rattle.slices.proofs.Ample.{decoded_slices, all_valid}
use Rattle.tables.specs.Length.{long_ample}
use Rattle.sound.specs.Calls.{Call, Take, Return, Resize, Give, Append}
use Rattle.sound.specs.Runs.{Aligned}
use Rattle.calls.specs.Performs.{grains_of, most_of, outcome}
use Rattle.calls.specs.Storable.{Sized, AllLong}

module _ (S : Slices) (z : Sized S) (l : AllLong S) where
  -- what a plan for the arena writes
  writable_stored : (w : List Write) → AllWritable (grains_of S) 12 w → AllValid 8 S w
  writable_stored = all_valid 8 12 S (long_ample S l.tables)

  -- a region, with its entry in the table
  region_stored : (behind g len : ℕ) (p : Plan) → RegionChecked (most_of S) behind (grains_of S) 12 g len (memory_of 8 S) p → AllValid 8 S p.writes
  region_stored behind g len p r =
      let c = memory_of 8 S Table 0 in
      let few = grains_le 8 S.arena in
      subst (λ (u : Plan). AllValid 8 S u.writes) (sym r.plan)
      (all_valid_append 8 S r.w.writes _
      (writable_stored r.w.writes (region_writable (grains_of S) 12 (omega arith) (most_of S) behind g len (memory_of 8 S) p r)) (
        (omega (arith, r.spare), omega (arith, r.inside, few, z)),
        ((omega (arith, r.spare), omega (arith, r.inside, few, z)), ((omega (arith, l.some), omega (arith, r.spare, l.most)), tt)),
      ))

  -- every call
  pub outcome_stored : (K : Call) (p : Plan) → Aligned K → outcome S K ≡ ok p → AllValid 8 S p.writes
  outcome_stored (Take h a) p al g = writable_stored p.writes (take_writable (grains_of S) 12 h a (memory_of 8 S) p (decoded_slices 8 S) al g)
  outcome_stored (Return q) p al g = writable_stored p.writes (back_writable (grains_of S) 12 q (memory_of 8 S) p (decoded_slices 8 S) g)
  outcome_stored (Resize q h a) p al g = writable_stored p.writes (resize_writable (grains_of S) 12 q h a (memory_of 8 S) (decoded_slices 8 S) al p g)
  outcome_stored (Give g len) p al e = region_stored 0 g len p (region_checked (most_of S) 0 (grains_of S) 12 g len (memory_of 8 S) p e)
  outcome_stored (Append g len) p al e = region_stored 1 g len p (region_checked (most_of S) 1 (grains_of S) 12 g len (memory_of 8 S) p e)
