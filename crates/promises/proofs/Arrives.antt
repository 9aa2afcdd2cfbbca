-- T7 and T11 of reallocate, in bytes: where the tags are right, the payload's first bytes, as many as it had and is to have, are at
-- its new place, or where they were. And how much is moved.
use Rattle.std.specs.Prelude.{ℕ, ◌+◌, ◌-◌, ◌*◌, ◌≤◌, ◌<◌, ◌≡◌, refl, List, [], ◌∷◌, ◌⊎◌, length, get_or}
use Rattle.std.proofs.Common.{arith, ap, sym, ◌∙◌, inl, inr, ⊎_elim}
use Rattle.word.specs.Number.{Apart}
use Rattle.definition.specs.Blocks.{Block, used}
use Rattle.definition.specs.Units.{halves, multiple}
use Rattle.invariants.specs.Order.{BlockAt}
use Rattle.script.specs.Memory.{Next, Prev, Write}
use Rattle.script.proofs.Script.{ends_gives}
use Rattle.sound.proofs.Swaps.{owner_unique, used_place}
use Rattle.machine.specs.Machine.{word_bytes, half, grain, classes}
use Rattle.tags.specs.Each.{Each}
use Rattle.plans.specs.Deeds.{Plan, writes}
use Rattle.plans.proofs.Lengths.{reallocate_writes}
use Rattle.plans.specs.Reallocate.{reallocate_script}
use Rattle.armour.specs.Carried.{Spares, Carried}
use Rattle.armour.specs.Reallocates.{Payload, kept, arrives, ReallocateArmoured}
use Rattle.armour.proofs.Reallocates.{reallocate_armoured}
use Rattle.refines.specs.Runs.{Reply, yes}
use Rattle.lent.specs.Slices.{Slices, memory_of}
use Rattle.lent.proofs.Fields.{by_field}
use Rattle.lent.specs.Kept.{Outside, AllOutside}
use Rattle.lent.proofs.Kept.{stores_byte}
use Rattle.promises.specs.Bytes.{reallocate}
use Rattle.lent.specs.Shifted.{carried_out}
use Rattle.promises.specs.Performs.{grains_of, Performs, early, refused, granted, Rowed}
use Rattle.promises.specs.Terms.{Holds, Carries}
use Rattle.promises.proofs.Offsets.{stands_offset, stands_multiple, range_align}
use Rattle.promises.proofs.Carrying.{carried_still, carried_arrived}
use Rattle.promises.proofs.Untouched.{used_outside}
use Rattle.promises.specs.Handed.{GrantedResize}
use Rattle.promises.proofs.Handed.{grains_le, granted_resize, resize_settled, resize_placed}

-- ---- writes that spare half grains leave their bytes

module _ (b u i : ℕ) (l : i < half * u) where
  clear_of : (y w : ℕ) → 4 * y ≤ w → w < 4 * y + 2 → (2 * y < b) ⊎ (b + u ≤ 2 * y) → Apart (word_bytes * w) word_bytes (half * b + i) 1
  clear_of y w p q h = ⊎_elim (λ (e : 2 * y < b). inl (omega arith)) (λ (e : b + u ≤ 2 * y). inr (omega arith)) h

  spares_one : (w : Write) → Spares b u w → Outside (half * b + i) w
  spares_one w = by_field (λ f. ((f ≡ Next) ⊎ (f ≡ Prev) → (2 * y < b) ⊎ (b + u ≤ 2 * y)) → Outside (half * b + i) (record { field = f; place = y; value = w.value }))
      (λ _. tt) (λ _. tt)
      (λ h. clear_of y (4 * y) (omega arith) (omega arith) (h (inl refl)))
      (λ h. clear_of y (4 * y + 1) (omega arith) (omega arith) (h (inr refl)))
      (λ _. tt) (λ _. tt) (λ _. tt) (λ f _. tt)
      w.field
    where
      y : ℕ
      y = w.place

  spares_outside : (w : List Write) → Each (Spares b u) w → AllOutside (half * b + i) w
  spares_outside [] h = tt
  spares_outside (w ∷ r) h = (spares_one w h.0, spares_outside r h.1)

-- ---- a reallocation that was granted, where the tags are right

module _ (S : Slices) (x n a z : ℕ) (T : Slices) (g : GrantedResize S x n a z T) (xs : List Block) (o : Rowed S xs) (y s d : ℕ) (b : Holds xs x y s d) where
  abbrev p : ℕ
  p = halves half n

  abbrev t : Plan
  t = g.plan

  armoured : ReallocateArmoured (grains_of S) classes g.q (halves half n) (multiple half a) (memory_of S) xs (λ k. []) g.plan
  armoured = reallocate_armoured (grains_of S) classes g.q (halves half n) (multiple half a) (memory_of S) xs (λ k. []) g.plan (range_align g.range) o g.outcome_is

  place_is : 2 * y + d ≡ g.q
  place_is = omega (arith, b.offset, stands_offset g.there)

  -- the block is the payload's own
  own : (y ≡ armoured.block) × (used s d ≡ used armoured.grains armoured.place)
  own = owner_unique xs y s d armoured.block armoured.grains armoured.place o.order b.block armoured.was_used (place_is ∙ armoured.owner)

  used_grains : {s d t e : ℕ} → used s d ≡ used t e → s ≡ t
  used_grains e = cc

  same_grains : s ≡ armoured.grains
  same_grains = used_grains own.1

  same_place : d ≡ armoured.place
  same_place = used_place own.1

  payload : Payload g.q armoured.block armoured.grains armoured.place armoured.heap.blocks g.plan
  payload = armoured.payload (stands_multiple g.there)

  -- no more is moved than the payload had
  pub moved_old : half * g.plan.moved ≤ grain * (y + s) - x
  moved_old = go payload
    where
      go : Payload g.q armoured.block armoured.grains armoured.place armoured.heap.blocks t → half * t.moved ≤ grain * (y + s) - x
      go (kept k h e f) = omega arith
      go (arrives c) = omega (arith, c.moved, same_grains, same_place, b.offset)

  module _ (i : ℕ) (l : x + i < grain * (y + s)) (m : i < n) where
    -- where it was
    stays : (k : ℕ) → BlockAt armoured.block (used k armoured.place) 0 armoured.heap.blocks → g.plan.answer ≡ g.q → g.plan.moved ≡ 0
        → get_or (carried_out S g.q g.plan).arena (half * g.plan.answer + i) 0 ≡ get_or S.arena (half * g.q + i) 0
    stays k h e f =
        let w = armoured in
        let r = w.resized in
        let u = owner_unique w.heap.blocks w.block k w.place r.z r.k r.e w.armoured.row.order h r.here (sym w.owner ∙ sym e ∙ r.payload) in
        let v : k ≡ r.k = used_grains u.1 in
        let c : w.place ≡ r.e = used_place u.1 in
        ap (λ (T : Slices). get_or T.arena (half * t.answer + i) 0) (carried_still S g.q t f)
        ∙ stores_byte S (writes t) (half * t.answer + i)
        (used_outside (grains_of S) classes (memory_of S) xs t w.heap.blocks o.order w.armoured w.block w.grains w.place k w.place (half * t.answer + i) w.was_used h
        (omega (arith, e, w.owner)) (omega (arith, e, stands_offset g.there, same_grains, own.0)) (omega (arith, e, w.owner, r.long, v, c)))
        ∙ ap (λ (v : ℕ). get_or S.arena (half * v + i) 0) e

    -- or elsewhere
    comes : Carried g.q (2 * armoured.grains - armoured.place) g.plan → get_or (carried_out S g.q g.plan).arena (half * g.plan.answer + i) 0 ≡ get_or S.arena (half * g.q + i) 0
    comes c =
        let u = 2 * armoured.grains - armoured.place in
        let k : i < half * u = omega (arith, b.offset, same_grains, same_place) in
        carried_arrived S g.q t i (omega (arith, c.moved)) (omega (arith, c.moved, (resize_placed S x n a z T g).to, grains_le S.arena))
        (spares_outside g.q u i k t.early c.old_stays) (spares_outside t.answer u i k t.late c.new_stays)

    pub resize_arrives : get_or T.arena (z + i) 0 ≡ get_or S.arena (x + i) 0
    resize_arrives =
        ap (λ (U : Slices). get_or U.arena (z + i) 0) g.left_is
        ∙ ap (λ (u : ℕ). get_or (carried_out S g.q t).arena (u + i) 0) (sym g.answer)
        ∙ go payload
        ∙ ap (λ (u : ℕ). get_or S.arena (u + i) 0) (stands_offset g.there)
      where
        go : Payload g.q armoured.block armoured.grains armoured.place armoured.heap.blocks t → get_or (carried_out S g.q t).arena (half * t.answer + i) 0 ≡ get_or S.arena (half * g.q + i) 0
        go (kept k h e f) = stays k h e f
        go (arrives c) = comes c

-- T7, T11
pub reallocate_arrives : (S : Slices) (x n a : ℕ) (r : Reply) (T : Slices) → Performs S (reallocate x n a) r T → (xs : List Block) → Rowed S xs → (y s d : ℕ) → Holds xs x y s d
    → (z : ℕ) → r ≡ yes z → (i : ℕ) → x + i < grain * (y + s) → i < n → get_or T.arena (z + i) 0 ≡ get_or S.arena (x + i) 0
reallocate_arrives S x n a r T p xs o y s d b z e i l m = resize_arrives S x n a z T (granted_resize S x n a r T z p e) xs o y s d b i l m

-- ---- T3

-- a refusal moves nothing
carries_none : (S : Slices) (m : ℕ) → Carries 35 m S S
carries_none S m =
    let t : Plan = record { answer = 0; moved = 0; early = []; late = [] } in
    record { payload = 0; plan = t; is = sym (carried_still S 0 t refl); words = omega arith; bytes = omega arith }

-- and else as much as its plan says
carries_planned : (S : Slices) (x n a m : ℕ) (r : Reply) (T : Slices) → Performs S (reallocate x n a) r T
    → ((z : ℕ) (g : GrantedResize S x n a z T) → half * g.plan.moved ≤ m) → Carries 35 m S T
carries_planned S x n a m r T (early i e) f = carries_none S m
carries_planned S x n a m r T (refused K i g e) f = carries_none S m
carries_planned S x n a m r T (granted K t g e) f =
    let c = granted_resize S x n a r T (half * t.answer) (granted K t g e) refl in
    record {
      payload = c.q;
      plan = c.plan;
      is = c.left_is;
      words = ends_gives (λ (t : Plan). length (writes t) ≤ 35) (memory_of S) (reallocate_script (grains_of S) classes c.q (halves half n) (multiple half a))
          (reallocate_writes (grains_of S) classes c.q (halves half n) (multiple half a)) c.outcome_is;
      bytes = f (half * t.answer) c;
    }

-- on any slices it is no more than the payload is to have
pub reallocate_carries : (S : Slices) (x n a : ℕ) (r : Reply) (T : Slices) → Performs S (reallocate x n a) r T → Carries 35 n S T
reallocate_carries S x n a r T p = carries_planned S x n a n r T p (λ z g. ⊎_elim
    (λ (e : g.plan.moved ≡ 0). omega arith)
    (λ (e : g.plan.moved < halves half n). omega arith)
    (resize_settled S x n a z T g).fewer)

-- where the tags are right no more than it had
pub reallocate_moves : (S : Slices) (x n a : ℕ) (r : Reply) (T : Slices) → Performs S (reallocate x n a) r T → (xs : List Block) → Rowed S xs → (y s d : ℕ) → Holds xs x y s d
    → Carries 35 (grain * (y + s) - x) S T
reallocate_moves S x n a r T p xs o y s d b = carries_planned S x n a (grain * (y + s) - x) r T p (λ z g. moved_old S x n a z T g xs o y s d b)
