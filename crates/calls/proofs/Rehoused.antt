-- What follows from specs/Rehoused.antt.
use Rattle.std.specs.Prelude.{ℕ, ◌+◌, ◌*◌, ◌<◌, ◌≡◌, get_or}
use Rattle.std.proofs.Common.{arith, ap, sym, ◌∙◌, subst}
use Rattle.definition.specs.Blocks.{used}
use Rattle.definition.specs.Units.{halves, multiple}
use Rattle.definition.specs.Calls.{Heap}
use Rattle.invariants.specs.Order.{BlockAt}
use Rattle.sound.specs.Calls.{Resize, answer_of}
use Rattle.sound.specs.Runs.{Reply, yes, left}
use Rattle.slices.specs.Slices.{Slices}
use Rattle.request.specs.Alignment.{multiple_align}
use Rattle.carry.specs.Carry.{carried}
use Rattle.calls.specs.Bytes.{reallocate, resize}
use Rattle.calls.proofs.Bytes.{stands_offset}
use Rattle.calls.specs.Performs.{Performs, Defines, Stand}
use Rattle.calls.specs.Storable.{Sized, AllLong}
use Rattle.calls.specs.Resizes.{GrantedResize}
use Rattle.calls.proofs.Resizes.{granted_resize, resized, resize_arrives}
use Rattle.calls.proofs.Refines.{performs_refines}
use Rattle.calls.proofs.One.{defines_one}
use Rattle.calls.specs.Rehoused.{Rehoused}

module _ (S : Slices) (x n a : ℕ) (r : Reply) (T : Slices) (h : Heap) (o : Stand S h) (p : Performs S (reallocate x n a) r T) (y s d : ℕ)
    (b : BlockAt y (used s d) 0 h.blocks) (e : x ≡ 16 * (2 * y + d)) (z : ℕ) (v : r ≡ yes z) where
  abbrev by : GrantedResize S x n a z T
  by = granted_resize S x n a r T z p v

  here : 2 * y + d ≡ by.q
  here = omega (arith, e, stands_offset by.there)

  -- the bytes that it had and is to have arrive as they were
  pub reallocate_arrives : (i : ℕ) → x + i < 32 * (y + s) → i < n → get_or T.arena (z + i) 0 ≡ get_or S.arena (x + i) 0
  reallocate_arrives i l m =
      let g = by in
      ap (λ (U : Slices). get_or U.arena (z + i) 0) g.left_is
      ∙ ap (λ (u : ℕ). get_or (carried S g.q g.plan).arena (u + i) 0) (sym g.answer)
      ∙ resize_arrives S h o g.q (halves 16 n) (multiple 16 a) (multiple_align a g.range.alignment.power) g.plan g.outcome_is y s d b here i (omega arith) (omega arith)
      ∙ ap (λ (u : ℕ). get_or S.arena (u + i) 0) (stands_offset g.there)

  -- and it has a block of its own
  pub reallocate_rehoused : Sized S → AllLong S → Rehoused h y s d n a z T
  reallocate_rehoused sized long =
      let g = by in
      let K = Resize g.q (halves 16 n) (multiple 16 a) in
      let f = performs_refines S sized long h o (reallocate x n a) tt r T p in
      let w = resized S h o g.q (halves 16 n) (multiple 16 a) (multiple_align a g.range.alignment.power) g.plan g.outcome_is y s d b here in
      record {
        heap = left h (answer_of 12 K h);
        stands = subst (Stand T) (defines_one h (reallocate x n a) r _ f.heap (left h (answer_of 12 K h)) f.defined (Defines.asked K (resize g.range g.there))).1 f.stands;
        payload = g.plan.answer;
        resized = w;
        offset = sym g.answer;
        long = omega (arith, g.answer, w.payload, w.long);
      }
