-- What follows from specs/Runs.antt.
use Rattle.std.specs.Prelude.{ℕ, ◌+◌, ◌-◌, ◌/◌, ◌≤◌, ◌≡◌, refl, List}
use Rattle.std.proofs.Common.{arith, ap}
use Rattle.table.specs.Table.{entry}
use Rattle.definition.specs.Calls.{Heap, empty}
use Rattle.script.specs.Memory.{Table}
use Rattle.sound.specs.Calls.{Call}
use Rattle.sound.specs.Runs.{Reply}
use Rattle.sound.proofs.Runs.{granted_table}
use Rattle.sound.specs.Runs.{regions_of as regions_asked}
use Rattle.sound.proofs.Determined.{determined}
use Rattle.slices.proofs.Decode.{wide_8}
use Rattle.slices.specs.Slices.{Slices, memory_of, stores}
use Rattle.slices.proofs.Slices.{memory_table}
use Rattle.slices.specs.Kept.{Lengths}
use Rattle.slices.proofs.Stored.{stores_are}
use Rattle.calls.specs.Bytes.{ByteCall, allocate, deallocate, reallocate, insert, append, Asks, take, back, resize, give, follow}
use Rattle.calls.specs.Performs.{grains_of, most_of, Performs, early, refused, granted, Stand}
use Rattle.calls.proofs.Performs.{stored_lengths, stored_regions}
use Rattle.calls.specs.Storable.{Sized, AllLong}
use Rattle.calls.proofs.Storable.{outcome_stored}
use Rattle.calls.specs.Begins.{Begun}
use Rattle.calls.proofs.Begins.{begun_lengths, begun_count, begun_stands}
use Rattle.calls.proofs.Fills.{fills_as, fills_lengths, fills_stand}
use Rattle.calls.specs.Refines.{Spare}
use Rattle.calls.proofs.Refines.{asks_aligned, performs_refines}
use Rattle.calls.specs.Runs.{Runs, write, DefinesAll, regions_of, regions_in, RunRefined}

-- ---- what a call leaves as it was

-- all lengths
pub performs_lengths : (S : Slices) (k : ByteCall) (r : Reply) (T : Slices) → Performs S k r T → Lengths S T
performs_lengths S k r T (early i e) = record { arena = refl; lists = refl; live = refl; regions = refl }
performs_lengths S k r T (refused K i g e) = record { arena = refl; lists = refl; live = refl; regions = refl }
performs_lengths S k r T (granted K p g e) = stored_lengths S K p

-- so tables that were long enough are
keeps_sized : {S T : Slices} → Lengths S T → Sized S → Sized T
keeps_sized e z = rw e.arena z

keeps_long : {S T : Slices} → Lengths S T → AllLong S → AllLong T
keeps_long e l = record { tables = rw (e.arena, e.lists, e.live) l.tables; some = rw e.regions l.some; most = rw e.regions l.most }

-- a call asks for as many regions as its grains do
asks_regions : (k : ByteCall) (K : Call) → Asks k K → regions_asked K ≡ regions_of k
asks_regions k K (take r) = refl
asks_regions k K (back s) = refl
asks_regions k K (resize r s) = refl
asks_regions k K give = refl
asks_regions k K follow = refl

-- and the table counts at most these more
performs_count : (S : Slices) (k : ByteCall) (r : Reply) (T : Slices) → Sized S → AllLong S → Performs S k r T
    → entry T.regions 0 ≤ entry S.regions 0 + regions_of k
performs_count S k r T z l (early i e) = omega arith
performs_count S k r T z l (refused K i g e) = omega arith
performs_count S k r T z l (granted K p g e) =
    let v = outcome_stored S z l K p (asks_aligned k K g.asks) e in
    omega (
      arith,
      granted_table (grains_of S) 12 (most_of S) (memory_of 8 S) K p e,
      asks_regions k K g.asks,
      memory_table 8 S 0,
      memory_table 8 (stores 8 S p.writes) 0,
      stores_are 8 S p.writes (wide_8 S.arena z) v Table 0,
      ap (λ (t : List ℕ). entry t 0) (stored_regions S K p),
    )

-- ---- T5

-- where there is room for all regions, there is room for the first
spare_each : (S : Slices) (k : ByteCall) (j : ℕ) → entry S.regions 0 + (regions_of k + j) ≤ most_of S → Spare S k
spare_each S (allocate n a) j h = tt
spare_each S (deallocate x a) j h = tt
spare_each S (reallocate x n a) j h = tt
spare_each S (insert x n) j h = omega arith
spare_each S (append x n) j h = omega arith

-- from slices that stand for a heap
pub runs_refine : (S : Slices) (ks : List ByteCall) (rs : List Reply) (T : Slices) (h : Heap) → Runs S ks rs T → Sized S → AllLong S → Stand S h
    → entry S.regions 0 + regions_in ks ≤ most_of S → RunRefined h ks rs T
runs_refine S ks rs T h Runs.stop z l o room = record { heap = h; defined = DefinesAll.stop; stands = o }
runs_refine S ks rs T h (Runs.step {T = U} {k = k} {r = r} {ks = js} {rs = qs} p q) z l o room =
    let a = performs_refines S z l h o k (spare_each S k (regions_in js) room) r U p in
    let e = performs_lengths S k r U p in
    let b = runs_refine U js qs T a.heap q (keeps_sized e z) (keeps_long e l) a.stands
    (omega (arith, room, performs_count S k r U z l p, ap (λ (n : ℕ). (n - 1) / 2) e.regions)) in
    record { heap = b.heap; defined = DefinesAll.step a.defined b.defined; stands = b.stands }
runs_refine S ks rs T h (write {T = U} {h = g} a f q) z l o room =
    let b = fills_as h g S U (determined (grains_of S) 12 (memory_of 8 S) h g o a).0 f in
    let e = fills_lengths h S U b in
    runs_refine U ks rs T h q (keeps_sized e z) (keeps_long e l) (fills_stand h S U b o)
    (omega (arith, room, ap (λ (t : List ℕ). entry t 0) b.tables.regions, ap (λ (n : ℕ). (n - 1) / 2) e.regions))

-- from tables that were made empty
pub runs_from_init : (S T U : Slices) → Sized S → AllLong S → Begun S T → (ks : List ByteCall) (rs : List Reply) → Runs T ks rs U → regions_in ks ≤ most_of T
    → RunRefined (empty (grains_of T)) ks rs U
runs_from_init S T U z l b ks rs q room =
    let e = begun_lengths S T l b in
    runs_refine T ks rs U (empty (grains_of T)) q (keeps_sized e z) (keeps_long e l) (begun_stands S T l b z) (omega (arith, room, begun_count S T l b))
