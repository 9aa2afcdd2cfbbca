-- What follows from specs/Resizes.antt.
use Rattle.std.specs.Prelude.{ℕ, ◌+◌, ◌-◌, ◌*◌, ◌≤◌, ◌<◌, min, ◌≡◌, refl, get_or}
use Rattle.std.proofs.Common.{arith, ap, ◌∙◌, inl, inr, ⊎_elim}
use Rattle.std.proofs.Math.Path.{sym, subst}
use mathlib.Core.List.{List}
use Rattle.choice.specs.Choice.{same?, le?}
use Rattle.definition.specs.Blocks.{Block, used, total}
use Rattle.definition.specs.Calls.{Heap, Answer, keeps}
use Rattle.definition.specs.Calls.{resize as resize_of}
use Rattle.invariants.specs.Order.{BlockAt, at_here, stands_at}
use Rattle.invariants.proofs.Order.{one_block}
use Rattle.invariants.specs.Placing.{Align}
use Rattle.invariants.proofs.Placing.{keeps_holds}
use Rattle.invariants.specs.Resized.{Resized}
use Rattle.invariants.proofs.Resized.{resize_granted}
use Rattle.script.specs.Script.{ok, Gives}
use Rattle.sound.specs.Plans.{Plan, resize_script}
use Rattle.sound.proofs.Swaps.{used_place}
use Rattle.sound.proofs.PayloadReturn.{owned}
use Rattle.sound.specs.Payloads.{Carried}
use Rattle.sound.proofs.Payloads.{resize_carries, resize_spares, resize_spares_own}
use Rattle.sound.specs.WritableResize.{Movable}
use Rattle.sound.proofs.WritableResize.{resize_storable}
use Rattle.sound.specs.Checks.{Owner, see_owner}
use Rattle.sound.proofs.SeenBeside.{owner_seen}
use Rattle.sound.specs.Sound.{Sound}
use Rattle.sound.proofs.ResizeSound.{resize_meets}
use Rattle.sound.specs.Runs.{Reply, yes, said, left, reply}
use Rattle.sound.proofs.Runs.{one}
use Rattle.slices.specs.Slices.{Slices, memory_of, stores}
use Rattle.slices.proofs.Decode.{grains_le}
use Rattle.slices.specs.Kept.{AllOutside}
use Rattle.slices.proofs.Kept.{stores_lengths, stores_byte}
use Rattle.slices.proofs.Ample.{decoded_slices}
use Rattle.sound.specs.Calls.{Call, Resize}
use Rattle.carry.specs.Carry.{carried, NotMoved, carried_arrived}
use Rattle.carry.proofs.Carry.{first_part, later_part, carried_same, carried_lengths, carried_tables, carried_byte, carried_kept}
use Rattle.calls.specs.Bytes.{reallocate, Asks, resize}
use Rattle.calls.specs.Performs.{grains_of, outcome, stored, Performs, early, refused, granted, Stand}
use Rattle.calls.specs.Payload.{InPayloadBytes}
use Rattle.calls.proofs.Payload.{writes_outside}
use Rattle.calls.specs.Fills.{Fills}
use Rattle.calls.proofs.Fills.{fills_stand}
use Rattle.calls.specs.Resizes.{GrantedResize, Live}

pub granted_resize : (S : Slices) (x n a : ℕ) (r : Reply) (T : Slices) (z : ℕ) → Performs S (reallocate x n a) r T → r ≡ yes z → GrantedResize S x n a z T
granted_resize S x n a r T z (early i b) e = let u : ◌≡◌ {A = ℕ} 0 1 = cc in absurd (omega arith)
granted_resize S x n a r T z (refused K i g f) e = let u : ◌≡◌ {A = ℕ} 0 1 = cc in absurd (omega arith)
granted_resize S x n a r T z (granted K p g f) e = let u : 16 * p.answer ≡ z = cc in go K g.asks f u
  where
    go : (K : Call) → Asks (reallocate x n a) K → outcome S K ≡ ok p → 16 * p.answer ≡ z → GrantedResize S x n a z (stored S K p)
    go K (resize {q = q} i s) f u = record { q = q; plan = p; range = i; there = s; outcome_is = f; answer = u; left_is = refl }

-- ---- on slices that stand for a heap

-- an answer that says a number has granted it
granted_is : (h : Heap) (v : ℕ) (w : Answer) → said w ≡ yes v → w ≡ Answer.granted v (left h w)
granted_is h v (Answer.refused i) e = let z : ◌≡◌ {A = ℕ} 0 1 = cc in absurd (omega arith)
granted_is h v (Answer.granted u k) e = let z : u ≡ v = cc in rw z

module _ (S : Slices) (h : Heap) (o : Stand S h) (q p a : ℕ) (al : Align a) (t : Plan) (g : outcome S (Resize q p a) ≡ ok t) where
  -- the heap that the definition leaves
  abbrev pub heap : Heap
  heap = left h (resize_of 12 h q p a)

  -- the payload was live
  pub live : Live h q
  unfolding resize_script
  live =
      let w = owned (grains_of S) 12 (memory_of 8 S) h q o _ t g in
      record {
        x = total w.l;
        s = w.s;
        d = w.d;
        here = subst (λ (A : List Block). BlockAt (total w.l) (used w.s w.d) 0 A) (sym w.whole) (at_here w.l w.r (used w.s w.d));
        payload = sym w.payload;
      }

  -- the definition grants the same answer
  pub defined : resize_of 12 h q p a ≡ Answer.granted t.answer heap
  defined = granted_is h t.answer (resize_of 12 h q p a)
      (sym (one (grains_of S) 12 (memory_of 8 S) h (resize_script (grains_of S) 12 q p a) (resize_of 12 h q p a) o (resize_meets (grains_of S) 12 p a (memory_of 8 S) h al o q)).0 ∙ ap reply g)

  -- whichever block the payload is live in
  module _ (x s d : ℕ) (b : BlockAt x (used s d) 0 h.blocks) (e : 2 * x + d ≡ q) where
    pub resized : Resized 12 h x s d p a t.answer heap
    resized = resize_granted 12 h x s d p a t.answer heap o.heap al b (ap (λ (u : ℕ). resize_of 12 h u p a) e ∙ defined)

    -- where it moves, the move is into the new payload
    module _ (ne : t.answer ≡ q → ⊥) where
      carries : Carried x s d p t
      carries = resize_carries (grains_of S) 12 q p a (memory_of 8 S) h t x s d al o g b e ne

      not_moved : (j : ℕ) → (InPayloadBytes j resized.start resized.grains resized.place → ⊥) → NotMoved t j
      not_moved j n =
          let z = resized in
          let c = carries in
          ⊎_elim
          (λ (i : 16 * t.answer + 16 * t.moved ≤ j). inl i)
          (λ (i : j < 16 * t.answer + 16 * t.moved). ⊎_elim
          (λ (k : j + 1 ≤ 16 * t.answer). inr k)
          (λ (k : 16 * t.answer < j + 1). absurd (n (omega (arith, z.payload), omega (arith, z.payload, z.long, c.moved, c.enough))))
          (le? (j + 1) (16 * t.answer)))
          (le? (16 * t.answer + 16 * t.moved) j)

      -- so it is as if the caller had written there
      fills : Fills heap (stores 8 S t.writes) (carried S q t)
      fills = record {
        size = (carried_lengths S q t).arena ∙ sym (stores_lengths 8 S t.writes).arena;
        bytes = λ j n. (carried_byte S q t j (not_moved j (n resized.start resized.grains resized.place resized.here))).1;
        tables = carried_tables S q t;
      }

      -- and not into another payload
      not_other : (y u v j : ℕ) → BlockAt y (used u v) 0 h.blocks → (2 * y + v ≡ q → ⊥) → InPayloadBytes j y u v → NotMoved t j
      not_other y u v j k n i = not_moved j (λ l. ⊎_elim
          (λ (w : y + u ≤ resized.start). omega (arith, i.1, l.0))
          (λ (w : resized.start + resized.grains ≤ y). omega (arith, i.0, l.1))
          (resized.apart y u v k (λ f. n (omega (arith, e, f, used_place (one_block x (used s d) (used u v) h.blocks o.heap.order b (subst (λ (w : ℕ). BlockAt w (used u v) 0 h.blocks) f k)))))))

      -- the bytes arrive: the writes before the move spare the old payload, and those after it the new one
      arrives : (i : ℕ) → i < 16 * (2 * s - d) → get_or (carried S q t).arena (16 * t.answer + i) 0 ≡ get_or S.arena (16 * q + i) 0
      arrives i l =
          let c = carries in
          let old : InPayloadBytes (16 * q + i) x s d = (omega (arith, e), omega (arith, e)) in
          let new : InPayloadBytes (16 * t.answer + i) c.start c.grains c.place = (omega (arith, c.answer), omega (arith, c.answer, c.long, c.enough)) in
          let r = resize_storable (grains_of S) 12 q p a (memory_of 8 S) (decoded_slices 8 S) al t g in
          carried_arrived S q t i (omega (arith, c.moved)) (omega (arith, c.enough, r.long, grains_le 8 S.arena))
          (subst (AllOutside 8 (16 * q + i)) (sym (first_part t c.first c.second c.parts c.early)) (writes_outside (16 * q + i) x s d old c.first c.old_stays))
          (subst (AllOutside 8 (16 * t.answer + i)) (sym (later_part t c.first c.second c.parts c.early))
          (writes_outside (16 * t.answer + i) c.start c.grains c.place new c.second c.new_stays))

    -- T4: the slices stand for the definition's heap, as they do where nothing is moved
    pub resize_stands : Stand (stores 8 S t.writes) heap → Stand (carried S q t) heap
    resize_stands k = ⊎_elim
        (λ (i : t.answer ≡ q). subst (λ (T : Slices). Stand T heap) (sym (carried_same S q t i)) k)
        (λ (n : t.answer ≡ q → ⊥). fills_stand heap (stores 8 S t.writes) (carried S q t) (fills n) k)
        (same? t.answer q)

    -- T7: no byte of another payload changes
    pub resize_others : (y u v : ℕ) → BlockAt y (used u v) 0 h.blocks → (2 * y + v ≡ q → ⊥) → (j : ℕ) → InPayloadBytes j y u v
        → get_or (carried S q t).arena j 0 ≡ get_or S.arena j 0
    resize_others y u v k n j i =
        let w = writes_outside j y u v i t.writes (resize_spares (grains_of S) 12 q p a (memory_of 8 S) h t y u v al o g k n) in
        ⊎_elim
        (λ (f : t.answer ≡ q). ap (λ (T : Slices). get_or T.arena j 0) (carried_same S q t f) ∙ stores_byte 8 S t.writes j w)
        (λ (f : t.answer ≡ q → ⊥). carried_kept S q t j (not_other f y u v j k n i) w)
        (same? t.answer q)

    -- T7: and the payload's own bytes, as many as it had and is to have, are at its new place, or where they were
    pub resize_arrives : (i : ℕ) → i < 16 * (2 * s - d) → i < 16 * p → get_or (carried S q t).arena (16 * t.answer + i) 0 ≡ get_or S.arena (16 * q + i) 0
    resize_arrives i l m = ⊎_elim
        (λ (f : t.answer ≡ q).
        let own : InPayloadBytes (16 * q + i) x (min s (keeps d p)) d = (omega (arith, e), omega (arith, e, keeps_holds d p)) in
        ap (λ (T : Slices). get_or T.arena (16 * t.answer + i) 0) (carried_same S q t f) ∙ ap (λ (v : ℕ). get_or (stores 8 S t.writes).arena (16 * v + i) 0) f
        ∙ stores_byte 8 S t.writes (16 * q + i) (writes_outside (16 * q + i) x (min s (keeps d p)) d own t.writes (resize_spares_own (grains_of S) 12 q p a (memory_of 8 S) h t x s d al o g b e f)))
        (λ (f : t.answer ≡ q → ⊥). arrives f i l)
        (same? t.answer q)

    -- T3: no more is moved than the payload had
    pub resize_few : t.moved ≤ 2 * s - d
    resize_few =
        let w = stands_at x (used s d) h.blocks b in
        let v = subst (λ (A : List Block). Sound (grains_of S) 12 (memory_of 8 S) (record { blocks = A; lists = h.lists })) w.whole o in
        let i = owner_seen (grains_of S) 12 (memory_of 8 S) h.lists w.before w.behind s d v in
        let k : 2 * total w.before + d ≡ q = omega (arith, e, w.place) in
        ⊎_elim
        (λ (z : t.moved ≡ 0). omega arith)
        (λ (z : Movable (grains_of S) (memory_of 8 S) q p t.moved).
        let u : z.owner ≡ record { at = total w.before; grains = s } = cc (z.seen, subst (λ (j : ℕ). Gives (memory_of 8 S) (see_owner j) (record { at = total w.before; grains = s })) k i) in
        omega (arith, z.end, ap (λ (j : Owner). j.at) u, ap (λ (j : Owner). j.grains) u, k))
        (resize_storable (grains_of S) 12 q p a (memory_of 8 S) (decoded_slices 8 S) al t g).moved
