-- The promises are kept: each follows from what the call does to the slices.
use Rattle.std.specs.Prelude.{ℕ, ◌≤◌, ◌≡◌, refl, [], length}
use Rattle.std.proofs.Common.{arith}
use Rattle.definition.specs.Units.{halves, multiple}
use Rattle.script.specs.Script.{Ends}
use Rattle.script.proofs.Script.{ends_gives}
use Rattle.machine.specs.Machine.{half, classes}
use Rattle.plans.specs.Deeds.{Plan, writes}
use Rattle.plans.specs.Calls.{Call, Allocate, Deallocate, Reallocate, script_of}
use Rattle.plans.proofs.Few.{allocate_reads, deallocate_reads, reallocate_reads}
use Rattle.plans.specs.Lengths.{allocate_writes}
use Rattle.plans.proofs.Lengths.{deallocate_writes}
use Rattle.refines.specs.Runs.{Reply}
use Rattle.lent.specs.Slices.{Slices, memory_of, stores}
use Rattle.promises.specs.Bytes.{ByteCall, allocate, deallocate, reallocate, insert, append, Asks, take, back}
use Rattle.promises.specs.Performs.{grains_of, most_of, Sized, stored, Performs, early, refused, granted}
use Rattle.promises.specs.Terms.{Stores}
use Rattle.promises.specs.Begins.{Begins, short, begun}
use Rattle.promises.proofs.One.{refusal_unchanged, performs_lengths}
use Rattle.promises.proofs.Refusals.{performs_numbers}
use Rattle.promises.proofs.Refines.{performs_refines}
use Rattle.promises.proofs.Conditions.{performs_never_5, allocate_refused_exactly, allocate_fits}
use Rattle.promises.proofs.Owners.{deallocate_answer, deallocate_refused_exactly, live_returned, reallocate_refused_exactly, live_resized, reallocate_cramped}
use Rattle.promises.proofs.Untouched.{performs_spares}
use Rattle.promises.proofs.Isolated.{performs_isolated}
use Rattle.promises.proofs.Deciding.{script_decided}
use Rattle.promises.proofs.Records.{insert_recorded, append_recorded}
use Rattle.promises.proofs.Regions.{insert_full, bare_granted, not_bare, append_full, ended_granted, not_ended}
use Rattle.promises.proofs.Damage.{performs_contained}
use Rattle.promises.proofs.Armours.{performs_armour}
use Rattle.promises.proofs.Handed.{allocate_within, allocate_handed, reallocate_within}
use Rattle.promises.proofs.Arrives.{reallocate_arrives, reallocate_carries, reallocate_moves}
use Rattle.promises.proofs.Rehoused.{reallocate_rehoused}
use Rattle.promises.proofs.Fresh.{begun_lengths, begun_stands}
use Rattle.promises.specs.Promises.{Of, Promise, Allocated, Deallocated, Reallocated, Inserted, Appended, Initialised}

-- ---- every call

pub promised : (S : Slices) (k : ByteCall) (r : Reply) (T : Slices) → Sized S → Performs S k r T → Promise S k r T
promised S k r T z p = record {
  exact = p;
  unchanged = refusal_unchanged S k r T p;
  lengths = performs_lengths S k r T p;
  numbers = performs_numbers S k r T p;
  refines = λ h l o. performs_refines S z h o k l r T p;
  never_5 = performs_never_5 S k r T p;
  untouched = performs_spares S k r T p;
  isolated = performs_isolated S k r T z p;
  contained = λ D Q e d n m. performs_contained S Q e (Of D) d k n z m r T p;
  armour = performs_armour S k r T z p;
}

-- what the plans of a call's script store is at most w words, and nothing is moved
abbrev Few : ℕ → Slices → Call → Type 0
Few w S K = ((t : Plan) → stored S K t ≡ stores S (writes t)) × Ends (λ (t : Plan). length (writes t) ≤ w) (script_of (grains_of S) classes (most_of S) K)

stores_few : (S : Slices) (k : ByteCall) (w : ℕ) → ((K : Call) → Asks k K → Few w S K) → (r : Reply) (T : Slices) → Performs S k r T → Stores w S T
stores_few S k w f r T (early i e) = ([], refl, omega arith)
stores_few S k w f r T (refused K i g e) = ([], refl, omega arith)
stores_few S k w f r T (granted K t g e) =
    let c = f K g.asks in
    (writes t, c.0 t, ends_gives (λ (t : Plan). length (writes t) ≤ w) (memory_of S) (script_of (grains_of S) classes (most_of S) K) c.1 e)

-- ---- allocate

take_few : (S : Slices) (n a : ℕ) (K : Call) → Asks (allocate n a) K → Few 16 S K
take_few S n a K (take r) = ((λ t. refl), allocate_writes (grains_of S) classes (halves half n) (multiple half a))

pub allocated : (S : Slices) (n a : ℕ) (r : Reply) (T : Slices) → Sized S → Performs S (allocate n a) r T → Allocated S n a r T
allocated S n a r T z p = record {
  promise = promised S (allocate n a) r T z p;
  reads = allocate_reads (grains_of S) classes (halves half n) (multiple half a);
  decided = script_decided 1 18 S (Allocate (halves half n) (multiple half a)) (allocate_reads (grains_of S) classes (halves half n) (multiple half a));
  writes = stores_few S (allocate n a) 16 (take_few S n a) r T p;
  within = allocate_within S n a r T p;
  handed = allocate_handed S n a r T z p;
  refused_exactly = λ h o l i. allocate_refused_exactly S n a r T p h o l i;
  fits = λ h o l i. allocate_fits S n a r T p h o l i;
}

-- ---- deallocate

back_few : (S : Slices) (x : ℕ) (K : Call) → Asks (deallocate x) K → Few 19 S K
back_few S x K (back e) = ((λ t. refl), deallocate_writes (grains_of S) classes _)

pub deallocated : (S : Slices) (x : ℕ) (r : Reply) (T : Slices) → Sized S → Performs S (deallocate x) r T → Deallocated S x r T
deallocated S x r T z p = record {
  promise = promised S (deallocate x) r T z p;
  reads = deallocate_reads (grains_of S) classes;
  decided = λ q. script_decided 0 40 S (Deallocate q) (deallocate_reads (grains_of S) classes q);
  writes = stores_few S (deallocate x) 19 (back_few S x) r T p;
  answer = deallocate_answer S x r T p;
  refused_exactly = λ xs o l. deallocate_refused_exactly S x r T p l xs o;
  live_returned = λ h o l. live_returned S x r T p l h o;
}

-- ---- reallocate

pub reallocated : (S : Slices) (x n a : ℕ) (r : Reply) (T : Slices) → Sized S → Performs S (reallocate x n a) r T → Reallocated S x n a r T
reallocated S x n a r T z p = record {
  promise = promised S (reallocate x n a) r T z p;
  reads = λ q. reallocate_reads (grains_of S) classes q (halves half n) (multiple half a);
  decided = λ q. script_decided 1 58 S (Reallocate q (halves half n) (multiple half a)) (reallocate_reads (grains_of S) classes q (halves half n) (multiple half a));
  writes = reallocate_carries S x n a r T p;
  moves = reallocate_moves S x n a r T p;
  within = reallocate_within S x n a r T p;
  arrives = reallocate_arrives S x n a r T p;
  rehoused = reallocate_rehoused S x n a r T z p;
  refused_exactly = λ xs o l i su. reallocate_refused_exactly S x n a r T p l i su xs o;
  live_refused = λ h o l i su. live_resized S x n a r T p l i su h o;
  cramped_exactly = λ h o l i su. reallocate_cramped S x n a r T p l i su h o;
}

-- ---- insert and append

pub inserted : (S : Slices) (b n : ℕ) (r : Reply) (T : Slices) → Sized S → Performs S (insert b n) r T → Inserted S b n r T
inserted S b n r T z p = record {
  promise = promised S (insert b n) r T z p;
  recorded = insert_recorded S b n r T z p;
  full_exactly = insert_full S b n r T p;
  refused_exactly = λ h o m. ((λ e u. bare_granted S b n r T p h o m u 4 e), not_bare S b n r T p h o m);
  bare_given = bare_granted S b n r T p;
}

pub appended : (S : Slices) (b n : ℕ) (r : Reply) (T : Slices) → Sized S → Performs S (append b n) r T → Appended S b n r T
appended S b n r T z p = record {
  promise = promised S (append b n) r T z p;
  recorded = append_recorded S b n r T z p;
  full_exactly = append_full S b n r T p;
  refused_exactly = λ h o m. ((λ e u v. ended_granted S b n r T p h o m u v 4 e), not_ended S b n r T p h o m);
  bare_given = ended_granted S b n r T p;
}

-- ---- init

pub initialised : (S : Slices) (r : Reply) (T : Slices) → Begins S r T → Initialised S r T
initialised S r T (short n) = record {
  exact = short n;
  unchanged = λ i e. refl;
  lengths = record { arena = refl; lists = refl; tags = refl; regions = refl };
  numbers = λ i e. cc;
  stands = λ v e. let y : ◌≡◌ {A = ℕ} 0 1 = cc in absurd (omega arith);
}
initialised S r T (begun U l b) = record {
  exact = begun T l b;
  unchanged = λ i e. let y : ◌≡◌ {A = ℕ} 0 1 = cc in absurd (omega arith);
  lengths = begun_lengths S T l b;
  numbers = λ i e. let y : ◌≡◌ {A = ℕ} 0 1 = cc in absurd (omega arith);
  stands = λ v e. begun_stands S T l b;
}
