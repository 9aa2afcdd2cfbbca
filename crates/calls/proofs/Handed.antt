-- What follows from specs/Handed.antt.
use Rattle.std.specs.Prelude.{ℕ, ◌+◌, ◌*◌, ◌≤◌, ◌≡◌, refl}
use Rattle.std.proofs.Common.{arith, sym, subst, ⊎_elim}
use Rattle.definition.specs.Units.{halves, multiple}
use Rattle.definition.specs.Calls.{Heap, Answer}
use Rattle.invariants.specs.Moves.{Ok}
use Rattle.invariants.proofs.Promises.{take_granted}
use Rattle.script.specs.Script.{ok}
use Rattle.sound.specs.Plans.{Plan}
use Rattle.sound.specs.WritableCalls.{Counted}
use Rattle.sound.proofs.WritableCalls.{take_answer}
use Rattle.sound.proofs.WritableResize.{resize_storable}
use Rattle.sound.specs.Calls.{Call, Take, Resize, answer_of}
use Rattle.sound.specs.Runs.{Reply, yes, said, left}
use Rattle.slices.proofs.Decode.{grains_le}
use Rattle.slices.specs.Slices.{Slices, memory_of}
use Rattle.slices.proofs.Ample.{decoded_slices}
use Rattle.request.specs.Alignment.{multiple_align}
use Rattle.request.specs.Asked.{InRange}
use Rattle.request.specs.Returned.{Stands}
use Rattle.request.specs.Handed.{handed_suits, handed_kind, half_divides}
use Rattle.calls.specs.Bytes.{allocate, reallocate, Asks, take, in_bytes}
use Rattle.calls.proofs.Bytes.{stands_offset}
use Rattle.calls.specs.Performs.{grains_of, outcome, Performs, early, refused, granted, Defines, Stand}
use Rattle.calls.specs.Storable.{Sized, AllLong}
use Rattle.calls.proofs.Resizes.{granted_resize}
use Rattle.calls.proofs.Refines.{performs_refines}
use Rattle.calls.specs.Handed.{Within, Handed}

-- ---- on any slices

-- v half grains behind the arena's start, with room for what was asked
answer_within : (S : Slices) (n a v : ℕ) → 1 ≤ v → v + halves 16 n ≤ 2 * grains_of S → Stands (16 * v) a v → Within S n a (16 * v)
answer_within S n a v some long s = record {
  low = omega arith;
  inside = omega (arith, long, grains_le 8 S.arena);
  aligned = s.suits.divides;
  returnable = record { suits = s.suits; kind = s.kind; number = refl };
}

-- a place counted from a block's start can be given back
counted_stands : (n a v : ℕ) → InRange n a → Counted (multiple 16 a) v → Stands (16 * v) a v
counted_stands n a v i k = rw k.1 (record { suits = handed_suits a k.0 i.alignment; kind = handed_kind a k.0 i.alignment; number = omega arith })

-- whatever a take answers that is no refusal is so
pub allocate_within : (S : Slices) (n a : ℕ) (r : Reply) (T : Slices) → Performs S (allocate n a) r T → (x : ℕ) → r ≡ yes x → Within S n a x
allocate_within S n a r T (early i b) x e = let z : ◌≡◌ {A = ℕ} 0 1 = cc in absurd (omega arith)
allocate_within S n a r T (refused K i g f) x e = let z : ◌≡◌ {A = ℕ} 0 1 = cc in absurd (omega arith)
allocate_within S n a r T (granted K p g f) x e = let z : 16 * p.answer ≡ x = cc in subst (Within S n a) z (go K g.asks f)
  where
    go : (K : Call) → Asks (allocate n a) K → outcome S K ≡ ok p → Within S n a (16 * p.answer)
    go K (take i) f =
        let t = take_answer (grains_of S) 12 (halves 16 n) (multiple 16 a) (memory_of 8 S) p (decoded_slices 8 S) (multiple_align a i.alignment.power) f in
        answer_within S n a p.answer t.0 t.1 (counted_stands n a p.answer i t.2)

-- what a resize answers lies so, too: the old place, or one counted anew
resize_within : (S : Slices) (n a x q : ℕ) (p : Plan) → InRange n a → Stands x a q → outcome S (Resize q (halves 16 n) (multiple 16 a)) ≡ ok p → Within S n a (16 * p.answer)
resize_within S n a x q p i s f =
    let t = resize_storable (grains_of S) 12 q (halves 16 n) (multiple 16 a) (memory_of 8 S) (decoded_slices 8 S) (multiple_align a i.alignment.power) p f in
    answer_within S n a p.answer t.some t.long (⊎_elim (λ (k : p.answer ≡ q). rw (k, stands_offset s) s) (counted_stands n a p.answer i) t.from)

pub reallocate_within : (S : Slices) (x n a : ℕ) (r : Reply) (T : Slices) → Performs S (reallocate x n a) r T → (z : ℕ) → r ≡ yes z → Within S n a z
reallocate_within S x n a r T p z e =
    let g = granted_resize S x n a r T z p e in
    subst (Within S n a) g.answer (resize_within S n a x g.q g.plan g.range g.there g.outcome_is)

-- ---- on slices that stand for a heap

answer_handed : (h : Heap) (n a x : ℕ) (T : Slices) (w : Answer) → Ok 12 h → InRange n a → answer_of 12 (Take (halves 16 n) (multiple 16 a)) h ≡ w
    → in_bytes (allocate n a) (said w) ≡ yes x → Stand T (left h w) → Handed h n a x T
answer_handed h n a x T (Answer.refused v) o i e f s = let z : ◌≡◌ {A = ℕ} 0 1 = cc in absurd (omega arith)
answer_handed h n a x T (Answer.granted v g) o i e f s =
    let k = take_granted 12 h (halves 16 n) (multiple 16 a) v g o (multiple_align a i.alignment.power) e in
    let z : 16 * v ≡ x = cc in
    record {
      heap = g;
      stands = s;
      payload = v;
      granted = k;
      offset = sym z;
      aligned = rw (sym z) (half_divides a v i.alignment.power k.aligned);
      long = omega (arith, z, k.payload, k.long);
    }

defined_handed : (h : Heap) (n a x : ℕ) (r : Reply) (g : Heap) (T : Slices) → Ok 12 h → Defines h (allocate n a) r g → r ≡ yes x → Stand T g → Handed h n a x T
defined_handed h n a x r g T o (Defines.wrong i w) e s = let z : ◌≡◌ {A = ℕ} 0 1 = cc in absurd (omega arith)
defined_handed h n a x r g T o (Defines.asked K (take i)) e s = answer_handed h n a x T (answer_of 12 (Take (halves 16 n) (multiple 16 a)) h) o i refl e s

-- whatever a take answers that is no refusal is so
pub allocate_handed : (S : Slices) (n a : ℕ) (r : Reply) (T : Slices) (h : Heap) → Sized S → AllLong S → Stand S h → Performs S (allocate n a) r T
    → (x : ℕ) → r ≡ yes x → Handed h n a x T
allocate_handed S n a r T h z l o p x e =
    let f = performs_refines S z l h o (allocate n a) tt r T p in
    defined_handed h n a x r f.heap T o.heap f.defined e f.stands
