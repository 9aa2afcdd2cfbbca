-- T7 and T11 in bytes: where the tags are right, no byte of a live payload changes, by any call, whatever stands in the arena and
-- in the lists, but of the payload that is given back or resized.
use Rattle.std.specs.Prelude.{ℕ, ◌+◌, ◌*◌, ◌/◌, ◌≤◌, ◌<◌, ◌≡◌, refl, List, [], ◌⊎◌, get_or}
use Rattle.std.proofs.Common.{arith, ap, ◌∙◌, inl, inr, ⊎_elim}
use Rattle.definition.specs.Blocks.{Block, used}
use Rattle.invariants.specs.Order.{out, Ordered, BlockAt}
use Rattle.script.specs.Memory.{Memory}
use Rattle.machine.specs.Machine.{grain, classes}
use Rattle.plans.specs.Deeds.{Plan, writes}
use Rattle.plans.specs.Calls.{Call, Allocate, Deallocate, Reallocate, Insert, Append}
use Rattle.armour.specs.Turns.{Armoured}
use Rattle.armour.specs.Stays.{InUse}
use Rattle.armour.proofs.Stays.{proper_spares}
use Rattle.refines.specs.Runs.{Reply}
use Rattle.lent.specs.Slices.{Slices, memory_of}
use Rattle.lent.specs.Kept.{AllOutside}
use Rattle.lent.proofs.Kept.{stores_byte, spared_outside}
use Rattle.promises.specs.Bytes.{ByteCall, Asks, take, back, resize, give, follow}
use Rattle.promises.specs.Performs.{grains_of, most_of, stored, Performs, early, refused, granted, Rowed}
use Rattle.promises.specs.Terms.{InPayload, SameAt, Other}
use Rattle.promises.proofs.Offsets.{stands_offset, half_offset, asks_fair}
use Rattle.promises.specs.Carrying.{NotMoved}
use Rattle.promises.proofs.Carrying.{carried_still, carried_kept}
use Rattle.promises.specs.Survives.{NotOf, Survives}
use Rattle.promises.proofs.Survives.{call_survives}

-- a call that is not about a payload asks for nothing that is
pub other_asked : (k : ByteCall) (K : Call) (v : ℕ) → Asks k K → Other k v → NotOf K v
other_asked k K v (take r) o = tt
other_asked k K v (back {x = x} e) o = λ i. o (omega (arith, i, half_offset x e))
other_asked k K v (resize r s) o = λ i. o (omega (arith, i, stands_offset s))
other_asked k K v give o = tt
other_asked k K v follow o = tt

-- ---- a byte of a block in use before and after

module _ (n c : ℕ) (m : Memory) (xs : List Block) (t : Plan) (ys : List Block) (o : Ordered out xs) (a : Armoured n c m xs t ys) where
  -- no write of the plan is about it
  pub used_outside : (y s d k e j : ℕ) → BlockAt y (used s d) 0 xs → BlockAt y (used k e) 0 ys → grain * y ≤ j → j < grain * (y + s) → j < grain * (y + k) → AllOutside j (writes t)
  used_outside y s d k e j b h low high up =
      let i : InUse xs ys (j / grain) = record {
        x = y;
        s = s;
        d = d;
        was = b;
        low = omega arith;
        high = omega arith;
        z = y;
        t = k;
        e = e;
        is = h;
        floor = omega arith;
        ceiling = omega arith;
      } in
      let u = proper_spares xs ys (j / grain) o a.row.order i (writes t) a.proper in
      spared_outside j (writes t) u.0 u.1

module _ (S : Slices) (xs : List Block) (o : Rowed S xs) (y s d : ℕ) (b : BlockAt y (used s d) 0 xs) (j : ℕ) (i : InPayload j y s d) where
  -- what is stored leaves it
  outside : (K : Call) (t : Plan) → Survives (grains_of S) classes (memory_of S) xs (λ k. []) K t → NotOf K (2 * y + d) → AllOutside j (writes t)
  outside K t w n = used_outside (grains_of S) classes (memory_of S) xs t w.heap.blocks o.order w.armoured y s d s d j b (w.stays y s d b n)
      (omega (arith, i.0)) i.1 i.1

  -- and so does a move
  not_moved : (t : Plan) → (t.answer + t.moved ≤ 2 * y) ⊎ (2 * (y + s) ≤ t.answer) → NotMoved t j
  not_moved t h = ⊎_elim
      (λ (e : t.answer + t.moved ≤ 2 * y). inl (omega (arith, i.0)))
      (λ (e : 2 * (y + s) ≤ t.answer). inr (omega (arith, i.1)))
      h

  carried_spares : (q : ℕ) (t : Plan) → AllOutside j (writes t) → (t.moved ≡ 0) ⊎ ((t.answer + t.moved ≤ 2 * y) ⊎ (2 * (y + s) ≤ t.answer)) → SameAt S (stored S (Reallocate q 0 0) t) j
  carried_spares q t a h = ⊎_elim
      (λ (e : t.moved ≡ 0). ap (λ (T : Slices). get_or T.arena j 0) (carried_still S q t e) ∙ stores_byte S (writes t) j a)
      (λ (e : (t.answer + t.moved ≤ 2 * y) ⊎ (2 * (y + s) ≤ t.answer)). carried_kept S q t j (not_moved t e) a)
      h

  stored_spares : (K : Call) (t : Plan) → Survives (grains_of S) classes (memory_of S) xs (λ k. []) K t → NotOf K (2 * y + d) → SameAt S (stored S K t) j
  stored_spares (Allocate p a) t w n = stores_byte S (writes t) j (outside (Allocate p a) t w n)
  stored_spares (Deallocate q) t w n = stores_byte S (writes t) j (outside (Deallocate q) t w n)
  stored_spares (Reallocate q p a) t w n = carried_spares q t (outside (Reallocate q p a) t w n) (w.clear y s d b n)
  stored_spares (Insert g len) t w n = stores_byte S (writes t) j (outside (Insert g len) t w n)
  stored_spares (Append g len) t w n = stores_byte S (writes t) j (outside (Append g len) t w n)

pub performs_spares : (S : Slices) (k : ByteCall) (r : Reply) (T : Slices) → Performs S k r T → (xs : List Block) → Rowed S xs
    → (y s d : ℕ) → BlockAt y (used s d) 0 xs → Other k (2 * y + d) → (j : ℕ) → InPayload j y s d → SameAt S T j
performs_spares S k r T (early v g) xs o y s d b e j i = refl
performs_spares S k r T (refused K v g q) xs o y s d b e j i = refl
performs_spares S k r T (granted K t g q) xs o y s d b e j i = stored_spares S xs o y s d b j i K t
    (call_survives (grains_of S) classes (most_of S) (memory_of S) xs (λ k. []) K t (omega arith) o (asks_fair k K g.asks) q) (other_asked k K (2 * y + d) g.asks e)
