-- T7 of reallocate on slices that stand for a heap: the payload has a block of its own, long enough, and every other block in use
-- stays.
use Rattle.std.specs.Prelude.{ℕ, ◌+◌, ◌*◌, ◌≡◌, refl}
use Rattle.std.proofs.Common.{arith, ap, sym, ◌∙◌, subst}
use Rattle.definition.specs.Units.{halves, multiple}
use Rattle.definition.specs.Calls.{Heap, Answer}
use Rattle.definition.specs.Calls.{resize as resize_of}
use Rattle.invariants.proofs.Resized.{resize_granted}
use Rattle.machine.specs.Machine.{half, classes}
use Rattle.plans.specs.Deeds.{Plan}
use Rattle.plans.specs.Calls.{Reallocate}
use Rattle.plans.specs.Reallocate.{reallocate_script}
use Rattle.refines.proofs.Seen.{sound_ok}
use Rattle.refines.specs.Sounds.{Meets}
use Rattle.refines.proofs.ReallocateWhole.{reallocate_meets}
use Rattle.refines.specs.Runs.{Reply, yes}
use Rattle.lent.specs.Slices.{Slices, memory_of}
use Rattle.promises.specs.Bytes.{reallocate}
use Rattle.promises.specs.Performs.{grains_of, Sized, Performs, Stand}
use Rattle.promises.specs.Terms.{Holds, Rehoused}
use Rattle.promises.proofs.Offsets.{stands_offset, stands_multiple, range_align}
use Rattle.promises.proofs.Refines.{stored_stands}
use Rattle.promises.specs.Handed.{GrantedResize}
use Rattle.promises.proofs.Handed.{granted_resize}

module _ (S : Slices) (x n a : ℕ) (T : Slices) (z : ℕ) (g : GrantedResize S x n a z T) (sized : Sized S) (h : Heap) (o : Stand S h) (y s d : ℕ) (b : Holds h.blocks x y s d) where
  plan_answer : (t u : Plan) → t ≡ u → t.answer ≡ u.answer
  plan_answer t u e = rw e

  answered : (w : Answer) → resize_of classes h g.q (halves half n) (multiple half a) ≡ w
      → Meets (grains_of S) classes (memory_of S) (reallocate_script (grains_of S) classes g.q (halves half n) (multiple half a)) w → Rehoused h y s d n a z T
  answered (Answer.refused v) e k = let i = g.outcome_is in let u : ◌≡◌ {A = ℕ} 0 1 = cc in absurd (omega arith)
  answered (Answer.granted v f) e k =
      let i = g.outcome_is in
      let j = k.gives in
      let u : g.plan ≡ k.plan = cc in
      let m : half * v ≡ z = omega (arith, g.answer, k.answer, plan_answer g.plan k.plan u) in
      let q : 2 * y + d ≡ g.q = omega (arith, b.offset, stands_offset g.there) in
      let w = resize_granted classes h y s d (halves half n) (multiple half a) v f (sound_ok (grains_of S) classes (memory_of S) h o) (range_align g.range) b.block
      (ap (λ (u : ℕ). resize_of classes h u (halves half n) (multiple half a)) q ∙ e) in
      record {
        heap = f;
        stands = subst (λ (T : Slices). Stand T f) (sym g.left_is) (stored_stands S sized h o g.plan f (rw u k.sound) (Reallocate g.q (halves half n) (multiple half a)) g.long
            (range_align g.range, stands_multiple g.there) g.outcome_is);
        payload = v;
        resized = w;
        offset = sym m;
        long = omega (arith, m, w.payload, w.long);
      }

  rehoused : Rehoused h y s d n a z T
  rehoused = answered (resize_of classes h g.q (halves half n) (multiple half a)) refl
      (reallocate_meets (grains_of S) classes (halves half n) (multiple half a) (memory_of S) h (range_align g.range) o g.q)

pub reallocate_rehoused : (S : Slices) (x n a : ℕ) (r : Reply) (T : Slices) → Sized S → Performs S (reallocate x n a) r T → (h : Heap) → Stand S h
    → (y s d : ℕ) → Holds h.blocks x y s d → (z : ℕ) → r ≡ yes z → Rehoused h y s d n a z T
reallocate_rehoused S x n a r T sized p h o y s d b z e = rehoused S x n a T z (granted_resize S x n a r T z p e) sized h o y s d b
