-- What follows from specs/Handed.antt.
use Rattle.std.specs.Prelude.{ℕ, ◌+◌, ◌*◌, ◌≤◌, ◌≡◌, refl, List, length}
use Rattle.std.proofs.Common.{arith, sym, subst, ⊎_elim}
use Rattle.definition.specs.Units.{halves, multiple}
use Rattle.definition.specs.Calls.{Heap, Answer}
use Rattle.definition.specs.Calls.{take as take_of}
use Rattle.invariants.proofs.Placing.{align_pos, place_some}
use Rattle.invariants.proofs.Promises.{take_granted}
use Rattle.script.specs.Memory.{Memory}
use Rattle.script.specs.Script.{ok, Gives}
use Rattle.script.proofs.Script.{inv_bind, ends_gives}
use Rattle.request.specs.Asked.{InRange}
use Rattle.request.specs.Returned.{Stands}
use Rattle.request.specs.Handed.{handed_suits, handed_kind}
use Rattle.machine.specs.Machine.{half, grain, classes}
use Rattle.plans.specs.Deeds.{Plan}
use Rattle.plans.specs.Calls.{Call, Allocate}
use Rattle.plans.specs.Allocate.{allocate_script}
use Rattle.plans.specs.Reallocate.{reallocate_script}
use Rattle.plans.specs.Checks.{see_owner}
use Rattle.plans.proofs.Checked.{owner_checked}
use Rattle.plans.proofs.StorableCalls.{allocate_inside, owner_inside}
use Rattle.plans.specs.StorableResize.{Placed}
use Rattle.plans.proofs.StorableResize.{reallocate_placed}
use Rattle.refines.proofs.Seen.{sound_ok}
use Rattle.refines.specs.Sounds.{Meets}
use Rattle.refines.proofs.AllocateMeets.{allocate_meets}
use Rattle.refines.specs.Runs.{Reply, yes}
use Rattle.lent.specs.Slices.{Slices, grains, memory_of}
use Rattle.promises.specs.Bytes.{allocate, reallocate, Asks, take, resize}
use Rattle.promises.specs.Performs.{grains_of, LongEnough, Sized, outcome, stored, Performs, early, refused, granted, Stand}
use Rattle.promises.specs.Terms.{Within, Handed}
use Rattle.promises.proofs.Offsets.{stands_offset, range_align}
use Rattle.promises.specs.Settled.{Counted, Settled}
use Rattle.promises.proofs.Settled.{allocate_counted, reallocate_settled}
use Rattle.promises.proofs.Refines.{stored_stands}
use Rattle.promises.specs.Handed.{GrantedResize}

-- all grains are in the arena
pub grains_le : (a : List ℕ) → grain * grains a ≤ length a
unfolding grains
grains_le a = omega arith

-- ---- on any slices

-- v half grains after the arena's start, with room for what was asked
answer_within : (S : Slices) (n a v : ℕ) → 1 ≤ v → v + halves half n ≤ 2 * grains_of S → Stands (half * v) a v → Within S n a (half * v)
answer_within S n a v some long s = record {
  low = omega arith;
  inside = omega (arith, long, grains_le S.arena);
  aligned = s.suits.divides;
  returnable = record { suits = s.suits; kind = s.kind; number = refl };
}

-- a place counted from a block's start can be given back
counted_stands : (n a v : ℕ) → InRange n a → Counted (multiple half a) v → Stands (half * v) a v
counted_stands n a v i k = rw k.1 (record { suits = handed_suits a k.0 i.alignment; kind = handed_kind a k.0 i.alignment; number = omega arith })

counted_some : (n a v : ℕ) → InRange n a → Counted (multiple half a) v → 1 ≤ v
counted_some n a v i k = omega (arith, k.1, place_some (multiple half a) k.0 (align_pos (multiple half a) (range_align i)))

pub allocate_within : (S : Slices) (n a : ℕ) (r : Reply) (T : Slices) → Performs S (allocate n a) r T → (x : ℕ) → r ≡ yes x → Within S n a x
allocate_within S n a r T (early i b) x e = let z : ◌≡◌ {A = ℕ} 0 1 = cc in absurd (omega arith)
allocate_within S n a r T (refused K i g f) x e = let z : ◌≡◌ {A = ℕ} 0 1 = cc in absurd (omega arith)
allocate_within S n a r T (granted K t g f) x e = let z : half * t.answer ≡ x = cc in subst (Within S n a) z (go K g.asks f)
  where
    go : (K : Call) → Asks (allocate n a) K → outcome S K ≡ ok t → Within S n a (half * t.answer)
    go K (take i) f =
        let p = halves half n in
        let m = multiple half a in
        let k = ends_gives (λ (t : Plan). Counted m t.answer) (memory_of S) (allocate_script (grains_of S) classes p m) (allocate_counted (grains_of S) classes p m) f in
        answer_within S n a t.answer (counted_some n a t.answer i k) (allocate_inside (grains_of S) classes p m (memory_of S) (range_align i) f) (counted_stands n a t.answer i k)

-- ---- a reallocation that is granted

pub granted_resize : (S : Slices) (x n a : ℕ) (r : Reply) (T : Slices) (z : ℕ) → Performs S (reallocate x n a) r T → r ≡ yes z → GrantedResize S x n a z T
granted_resize S x n a r T z (early i b) e = let u : ◌≡◌ {A = ℕ} 0 1 = cc in absurd (omega arith)
granted_resize S x n a r T z (refused K i g f) e = let u : ◌≡◌ {A = ℕ} 0 1 = cc in absurd (omega arith)
granted_resize S x n a r T z (granted K t g f) e = let u : half * t.answer ≡ z = cc in go K g.asks f u
  where
    go : (K : Call) → Asks (reallocate x n a) K → outcome S K ≡ ok t → half * t.answer ≡ z → GrantedResize S x n a z (stored S K t)
    go K (resize {q = q} i s) f u = record { q = q; plan = t; range = i; there = s; long = g.long; outcome_is = f; answer = u; left_is = refl }

module _ (S : Slices) (x n a z : ℕ) (T : Slices) (g : GrantedResize S x n a z T) where
  pub resize_settled : Settled g.q (halves half n) (multiple half a) g.plan.answer g.plan.moved
  resize_settled = ends_gives (λ (t : Plan). Settled g.q (halves half n) (multiple half a) t.answer t.moved) (memory_of S)
      (reallocate_script (grains_of S) classes g.q (halves half n) (multiple half a)) (reallocate_settled (grains_of S) classes g.q (halves half n) (multiple half a)) g.outcome_is

  pub resize_placed : Placed (grains_of S) g.q (halves half n) g.plan.answer g.plan.moved
  resize_placed = reallocate_placed (grains_of S) classes g.q (halves half n) (multiple half a) (memory_of S) (range_align g.range) g.outcome_is

-- a payload that has a block is not at the arena's start
pub reallocate_some : (n c q p a : ℕ) (m : Memory) {t : Plan} → Gives m (reallocate_script n c q p a) t → 1 ≤ q
unfolding reallocate_script
reallocate_some n c q p a m g =
    let i = inv_bind m (see_owner n q) _ g in
    let k = owner_inside m n q i.0 (owner_checked m n q i.1) in
    omega (arith, k.1.some)

pub reallocate_within : (S : Slices) (x n a : ℕ) (r : Reply) (T : Slices) → Performs S (reallocate x n a) r T → (z : ℕ) → r ≡ yes z → Within S n a z
reallocate_within S x n a r T p z e =
    let g = granted_resize S x n a r T z p e in
    let v = g.plan.answer in
    let some = reallocate_some (grains_of S) classes g.q (halves half n) (multiple half a) (memory_of S) g.outcome_is in
    subst (Within S n a) g.answer (⊎_elim
    (λ (k : v ≡ g.q). answer_within S n a v (omega arith) (resize_placed S x n a z T g).inside (rw (k, stands_offset g.there) g.there))
    (λ (k : Counted (multiple half a) v). answer_within S n a v (counted_some n a v g.range k) (resize_placed S x n a z T g).inside (counted_stands n a v g.range k))
    (resize_settled S x n a z T g).from)

-- ---- on slices that stand for a heap

answer_handed : (S : Slices) (n a x : ℕ) (T : Slices) (h : Heap) (t : Plan) → Sized S → LongEnough S → Stand S h → InRange n a → half * t.answer ≡ x
    → outcome S (Allocate (halves half n) (multiple half a)) ≡ ok t → T ≡ stored S (Allocate (halves half n) (multiple half a)) t
    → (w : Answer) → take_of classes h (halves half n) (multiple half a) ≡ w → Meets (grains_of S) classes (memory_of S) (allocate_script (grains_of S) classes (halves half n) (multiple half a)) w
    → Handed h n a x T
answer_handed S n a x T h t z l o i u e f (Answer.refused v) q k = let y : ◌≡◌ {A = ℕ} 0 1 = cc in absurd (omega arith)
answer_handed S n a x T h t z l o i u e f (Answer.granted v g) q k =
    let w = k.gives in
    let y : t ≡ k.plan = cc in
    let b = k.answer in
    let m : half * v ≡ x = omega (arith, u, b, y_answer t k.plan y) in
    let c = take_granted classes h (halves half n) (multiple half a) v g (sound_ok (grains_of S) classes (memory_of S) h o) (range_align i) q in
    record {
      heap = g;
      stands = subst (λ (T : Slices). Stand T g) (sym f) (stored_stands S z h o t g (rw y k.sound) (Allocate (halves half n) (multiple half a)) l (range_align i) e);
      payload = v;
      granted = c;
      offset = sym m;
      long = omega (arith, m, c.payload, c.long);
    }
  where
    y_answer : (t s : Plan) → t ≡ s → t.answer ≡ s.answer
    y_answer t s e = rw e

pub allocate_handed : (S : Slices) (n a : ℕ) (r : Reply) (T : Slices) → Sized S → Performs S (allocate n a) r T → (h : Heap) → Stand S h
    → (x : ℕ) → r ≡ yes x → Handed h n a x T
allocate_handed S n a r T z (early i b) h o x e = let y : ◌≡◌ {A = ℕ} 0 1 = cc in absurd (omega arith)
allocate_handed S n a r T z (refused K i g f) h o x e = let y : ◌≡◌ {A = ℕ} 0 1 = cc in absurd (omega arith)
allocate_handed S n a r T z (granted K t g f) h o x e = let u : half * t.answer ≡ x = cc in go K g.asks f u
  where
    go : (K : Call) → Asks (allocate n a) K → outcome S K ≡ ok t → half * t.answer ≡ x → Handed h n a x (stored S K t)
    go K (take i) f u = answer_handed S n a x _ h t z g.long o i u f refl (take_of classes h (halves half n) (multiple half a)) refl
        (allocate_meets (grains_of S) classes (halves half n) (multiple half a) (memory_of S) h (range_align i) o)
