-- The promises are kept: each follows from what the call does to the slices.
use Rattle.std.specs.Prelude.{ℕ, ◌*◌, ◌+◌, ◌-◌, ◌≤◌, ◌≡◌, refl, [], length}
use Rattle.std.proofs.Common.{arith, sym, ⊎_elim}
use Rattle.definition.specs.Units.{halves, multiple}
use Rattle.script.specs.Script.{Ends}
use Rattle.script.proofs.Script.{ends_gives}
use Rattle.definition.specs.Calls.{Heap}
use Rattle.invariants.specs.Placing.{Align}
use Rattle.sound.specs.Plans.{Plan, resize_script}
use Rattle.sound.specs.WritableResize.{Movable}
use Rattle.sound.proofs.WritableResize.{resize_storable}
use Rattle.sound.specs.Calls.{Call, script_of}
use Rattle.sound.proofs.Constant.{take_reads, take_writes, back_reads, back_writes_lem, resize_reads, resize_writes}
use Rattle.sound.specs.Runs.{Reply, yes, not}
use Rattle.slices.specs.Slices.{Slices, memory_of, stores}
use Rattle.slices.proofs.Ample.{decoded_slices}
use Rattle.carry.proofs.Carry.{carried_still}
use Rattle.request.specs.Alignment.{multiple_align}
use Rattle.calls.specs.Bytes.{ByteCall, allocate, deallocate, reallocate, Asks, take, back}
use Rattle.calls.proofs.Bytes.{stands_offset}
use Rattle.calls.specs.Performs.{grains_of, most_of, stored, Performs, early, refused, granted, Stand}
use Rattle.calls.specs.Storable.{Sized}
use Rattle.calls.proofs.Refines.{performs_refines}
use Rattle.calls.specs.Begins.{Begins, short, begun}
use Rattle.calls.proofs.Begins.{begun_lengths, begun_stands}
use Rattle.calls.proofs.Untouched.{performs_spares}
use Rattle.calls.proofs.Runs.{performs_lengths}
use Rattle.calls.proofs.Numbers.{performs_numbers}
use Rattle.calls.proofs.Conditions.{performs_never_5, allocate_refused_exactly, allocate_fits, deallocate_refused_exactly, live_returned, reallocate_refused_exactly, live_resized, reallocate_cramped}
use Rattle.calls.specs.Resizes.{GrantedResize}
use Rattle.calls.proofs.Resizes.{granted_resize, resize_few}
use Rattle.calls.proofs.Handed.{allocate_within, allocate_handed, reallocate_within}
use Rattle.calls.proofs.Rehoused.{reallocate_arrives, reallocate_rehoused}
use Rattle.calls.proofs.Damage.{performs_contained}
use Rattle.calls.specs.Promises.{Of, Promise, Stores, Allocated, Deallocated, Carries, Holds, Reallocated, Initialised}

-- ---- every call

refusal_unchanged : (S : Slices) (k : ByteCall) (r : Reply) (T : Slices) → Performs S k r T → (i : ℕ) → r ≡ not i → T ≡ S
refusal_unchanged S k r T (early j a) i e = refl
refusal_unchanged S k r T (refused K j g f) i e = refl
refusal_unchanged S k r T (granted K p g f) i e = let z : ◌≡◌ {A = ℕ} 0 1 = cc in absurd (omega arith)

pub promised : (S : Slices) (k : ByteCall) (r : Reply) (T : Slices) → Sized S → Performs S k r T → Promise S k r T
promised S k r T z p = record {
  exact = p;
  unchanged = refusal_unchanged S k r T p;
  lengths = performs_lengths S k r T p;
  numbers = performs_numbers S k r T p;
  refines = λ h l o f. performs_refines S z l h o k f r T p;
  never_5 = λ h o. performs_never_5 S k r T h o p;
  untouched = λ h o y s d b t j i. performs_spares S k r T h o p y s d b t j i;
  contained = λ D Q l e d n m. performs_contained S Q e (Of D) d k n z l m r T p;
}

-- what the plans of a call's script store is at most w words, and nothing is moved
abbrev Few : ℕ → Slices → Call → Type 0
Few w S K = ((p : Plan) → stored S K p ≡ stores 8 S p.writes) × Ends (λ (t : Plan). length t.writes ≤ w) (script_of (grains_of S) 12 (most_of S) K)

stores_few : (S : Slices) (k : ByteCall) (w : ℕ) → ((K : Call) → Asks k K → Few w S K) → (r : Reply) (T : Slices) → Performs S k r T → Stores w S T
stores_few S k w f r T (early i e) = ([], refl, omega arith)
stores_few S k w f r T (refused K i g e) = ([], refl, omega arith)
stores_few S k w f r T (granted K p g e) =
    let c = f K g.asks in
    (p.writes, c.0 p, ends_gives (λ (t : Plan). length t.writes ≤ w) (memory_of 8 S) (script_of (grains_of S) 12 (most_of S) K) c.1 e)

-- ---- take

take_few : (S : Slices) (n a : ℕ) (K : Call) → Asks (allocate n a) K → Few 12 S K
take_few S n a K (take r) = ((λ p. refl), take_writes (grains_of S) 12 (halves 16 n) (multiple 16 a))

pub allocated : (S : Slices) (n a : ℕ) (r : Reply) (T : Slices) → Sized S → Performs S (allocate n a) r T → Allocated S n a r T
allocated S n a r T z p = record {
  promise = promised S (allocate n a) r T z p;
  reads = take_reads (grains_of S) 12 (halves 16 n) (multiple 16 a);
  writes = stores_few S (allocate n a) 12 (take_few S n a) r T p;
  within = allocate_within S n a r T p;
  refused_exactly = λ h o l i. allocate_refused_exactly S n a r T h o l i p;
  fits = λ h o l i. allocate_fits S n a r T h o l i p;
  handed = λ h l o x e. allocate_handed S n a r T h z l o p x e;
}

-- ---- return

back_few : (S : Slices) (x a : ℕ) (K : Call) → Asks (deallocate x a) K → Few 11 S K
back_few S x a K (back {q = q} s) = ((λ p. refl), back_writes_lem (grains_of S) 12 q)

pub deallocated : (S : Slices) (x a : ℕ) (r : Reply) (T : Slices) → Sized S → Performs S (deallocate x a) r T → Deallocated S x a r T
deallocated S x a r T z p = record {
  promise = promised S (deallocate x a) r T z p;
  reads = back_reads (grains_of S) 12;
  writes = stores_few S (deallocate x a) 11 (back_few S x a) r T p;
  refused_exactly = λ h o l q s. deallocate_refused_exactly S x a q s r T h o l p;
  live_returned = λ h o l y s d b t. live_returned S x a (2 * y + d) t r T h o l p y s d b refl;
}

-- ---- resize

-- a refusal moves nothing
carries_none : (S : Slices) (m : ℕ) → Carries 23 m S S
carries_none S m =
    let p : Plan = record { answer = 0; writes = []; moved = 0; early = 0 } in
    record { payload = 0; plan = p; is = sym (carried_still S 0 p refl); words = omega arith; bytes = omega arith }

-- and else as much as its plan says
carries_planned : (S : Slices) (x n a m : ℕ) (r : Reply) (T : Slices) → Performs S (reallocate x n a) r T
    → ((z : ℕ) → r ≡ yes z → (g : GrantedResize S x n a z T) → 16 * g.plan.moved ≤ m) → Carries 23 m S T
carries_planned S x n a m r T (early i e) f = carries_none S m
carries_planned S x n a m r T (refused K i g e) f = carries_none S m
carries_planned S x n a m r T (granted K p g e) f =
    let c = granted_resize S x n a r T (16 * p.answer) (granted K p g e) refl in
    record {
      payload = c.q;
      plan = c.plan;
      is = c.left_is;
      words = ends_gives (λ (t : Plan). length t.writes ≤ 23) (memory_of 8 S) (resize_script (grains_of S) 12 c.q (halves 16 n) (multiple 16 a))
          (resize_writes (grains_of S) 12 c.q (halves 16 n) (multiple 16 a)) c.outcome_is;
      bytes = f (16 * p.answer) refl c;
    }

module _ (S : Slices) (x n a : ℕ) (z : ℕ) (T : Slices) (g : GrantedResize S x n a z T) where
  aligned : Align (multiple 16 a)
  aligned = multiple_align a g.range.alignment.power

  -- on any slices it is less than the payload is to have
  moved_new : 16 * g.plan.moved ≤ n
  moved_new = ⊎_elim
      (λ (e : g.plan.moved ≡ 0). omega arith)
      (λ (e : Movable (grains_of S) (memory_of 8 S) g.q (halves 16 n) g.plan.moved). omega (arith, e.fewer))
      (resize_storable (grains_of S) 12 g.q (halves 16 n) (multiple 16 a) (memory_of 8 S) (decoded_slices 8 S) aligned g.plan g.outcome_is).moved

  -- and on slices that stand for a heap no more than it had
  moved_old : (h : Heap) → Stand S h → (y s d : ℕ) → Holds h x y s d → 16 * g.plan.moved ≤ 32 * (y + s) - x
  moved_old h o y s d b =
      let e : 2 * y + d ≡ g.q = omega (arith, b.offset, stands_offset g.there) in
      omega (arith, b.offset, resize_few S h o g.q (halves 16 n) (multiple 16 a) aligned g.plan g.outcome_is y s d b.block e)

pub reallocated : (S : Slices) (x n a : ℕ) (r : Reply) (T : Slices) → Sized S → Performs S (reallocate x n a) r T → Reallocated S x n a r T
reallocated S x n a r T z p = record {
  promise = promised S (reallocate x n a) r T z p;
  reads = λ q. resize_reads (grains_of S) 12 q (halves 16 n) (multiple 16 a);
  writes = carries_planned S x n a n r T p (λ v e g. moved_new S x n a v T g);
  moves = λ h o y s d b. carries_planned S x n a (32 * (y + s) - x) r T p (λ v e g. moved_old S x n a v T g h o y s d b);
  within = reallocate_within S x n a r T p;
  stays = λ h o y s d b e. reallocate_arrives S x n a r T h o p y s d b.block b.offset x e;
  arrives = λ h o y s d b v e. reallocate_arrives S x n a r T h o p y s d b.block b.offset v e;
  rehoused = λ h l o y s d b v e. reallocate_rehoused S x n a r T h o p y s d b.block b.offset v e z l;
  refused_exactly = λ h o l i q s. reallocate_refused_exactly S x n a q i s r T h o l p;
  live_refused = λ h o l i y s d b t. live_resized S x n a (2 * y + d) i t r T h o l p y s d b refl;
  cramped_exactly = λ h o l i y s d b t. reallocate_cramped S x n a (2 * y + d) i t r T h o l p y s d b refl;
}

-- ---- an empty heap

pub initialised : (S : Slices) (r : Reply) (T : Slices) → Sized S → Begins S r T → Initialised S r T
initialised S r T z (short n) = record {
  exact = short n;
  unchanged = λ i e. refl;
  lengths = record { arena = refl; lists = refl; live = refl; regions = refl };
  stands = λ v e. let y : ◌≡◌ {A = ℕ} 0 1 = cc in absurd (omega arith);
}
initialised S r T z (begun U l b) = record {
  exact = begun T l b;
  unchanged = λ i e. let y : ◌≡◌ {A = ℕ} 0 1 = cc in absurd (omega arith);
  lengths = begun_lengths S T l b;
  stands = λ v e. begun_stands S T l b z;
}
