-- What follows from specs/Room.antt.
use Rattle.std.specs.Prelude.{ℕ, ◌<◌, ◌≡◌, refl, ◌⊎◌}
use Rattle.std.proofs.Common.{arith, ap, ◌∙◌, inl, inr, ⊎_elim}
use Rattle.choice.specs.Choice.{if_eq, eq_yes, same?}
use Rattle.table.specs.Table.{entry}
use Rattle.definition.specs.Calls.{Heap}
use Rattle.script.specs.Memory.{Memory, Table}
use Rattle.script.specs.Script.{no, run, done, stop}
use Rattle.script.proofs.Script.{reads, halts}
use Rattle.sound.specs.RegionPlan.{region_script}
use Rattle.sound.specs.Calls.{Call}
use Rattle.slices.specs.Slices.{Slices, memory_of}
use Rattle.slices.proofs.Slices.{memory_table}
use Rattle.calls.specs.Bytes.{ByteCall, Asks, take, back, resize, give, follow}
use Rattle.calls.specs.Performs.{grains_of, most_of, outcome, Stand}
use Rattle.calls.specs.Refines.{Spare}
use Rattle.calls.specs.Room.{count_most}

-- a full table
stops : (m : Memory) (r : ℕ) → run m (if_eq r r (stop 6) (done (tt {0}))) ≡ no 6
unfolding run
stops m r = ap (run m) (eq_yes r r (stop 6) (done (tt {0})) refl)

full : (S : Slices) (behind g len : ℕ) → entry S.regions 0 ≡ most_of S → run (memory_of 8 S) (region_script (most_of S) behind (grains_of S) 12 g len) ≡ no 6
unfolding region_script
full S behind g len e = reads (memory_of 8 S) Table 0 _ (memory_table 8 S 0 ∙ e) ∙ halts (memory_of 8 S) (if_eq (most_of S) (most_of S) (stop 6) (done (tt {0}))) _ (stops (memory_of 8 S) (most_of S))

-- room for one more region, or a full table
either : (S : Slices) (h : Heap) → Stand S h → (behind g len : ℕ)
    → (entry S.regions 0 < most_of S) ⊎ (run (memory_of 8 S) (region_script (most_of S) behind (grains_of S) 12 g len) ≡ no 6)
either S h o behind g len = ⊎_elim
    (λ (e : entry S.regions 0 ≡ most_of S). inr (full S behind g len e))
    (λ (e : entry S.regions 0 ≡ most_of S → ⊥). inl (omega (arith, e, count_most S h o)))
    (same? (entry S.regions 0) (most_of S))

-- there is room for what a call asks for, or it is refused with 6
pub room_or_full : (S : Slices) (h : Heap) → Stand S h → (k : ByteCall) (K : Call) → Asks k K → Spare S k ⊎ (outcome S K ≡ no 6)
room_or_full S h o k K (take r) = inl tt
room_or_full S h o k K (back s) = inl tt
room_or_full S h o k K (resize r s) = inl tt
room_or_full S h o k K (give {x = x} {n = n}) = either S h o 0 _ _
room_or_full S h o k K (follow {x = x} {n = n}) = either S h o 1 _ _
