-- T7: bytes of grains that were never given, and bytes after the last whole grain, are changed by no call.
use Rattle.std.specs.Prelude.{ℕ, ◌/◌, ◌<◌, ◌≡◌, refl, List, [], ◌∷◌, get_or}
use Rattle.std.proofs.Common.{arith, ap, ◌∙◌, subst, inl, inr, ⊎_elim}
use Rattle.definition.specs.Blocks.{Block, free, used, gap}
use Rattle.invariants.specs.Order.{out, Ordered, Apart, same, before, behind}
use Rattle.invariants.proofs.Order.{apart, at_end_lem, at_whole, one_block}
use Rattle.invariants.proofs.Moves.{free_gap}
use Rattle.script.specs.Memory.{Next, Prev, Write, Spared}
use Rattle.script.specs.Script.{ok}
use Rattle.script.proofs.Script.{ends_gives}
use Rattle.machine.specs.Machine.{grain, classes}
use Rattle.tags.specs.Each.{Each}
use Rattle.plans.specs.Deeds.{Plan, writes}
use Rattle.plans.specs.Calls.{Call, Allocate, Deallocate, Reallocate, Insert, Append}
use Rattle.plans.specs.Reallocate.{reallocate_script}
use Rattle.armour.specs.Row.{Free, Either}
use Rattle.armour.specs.Turns.{Proper}
use Rattle.armour.specs.Ledger.{Backed}
use Rattle.refines.specs.Runs.{Reply}
use Rattle.lent.specs.Slices.{Slices, memory_of}
use Rattle.lent.specs.Kept.{AllOutside}
use Rattle.lent.proofs.Kept.{stores_byte, spared_outside}
use Rattle.promises.specs.Bytes.{ByteCall}
use Rattle.promises.specs.Performs.{grains_of, most_of, Sized, outcome, stored, Performs, early, refused, granted, Rowed}
use Rattle.promises.specs.Terms.{SameAt, Ungiven}
use Rattle.promises.proofs.Offsets.{asks_fair}
use Rattle.promises.specs.Carrying.{NotMoved}
use Rattle.promises.proofs.Carrying.{carried_still, carried_kept}
use Rattle.promises.proofs.Storable.{goes_long, stored_row}
use Rattle.promises.specs.Settled.{Settled}
use Rattle.promises.proofs.Settled.{reallocate_settled}
use Rattle.promises.specs.Survives.{loan, Survives}
use Rattle.promises.proofs.Survives.{call_survives}
use Rattle.promises.proofs.Filling.{row_unique}

-- no free block starts there
not_free : (xs : List Block) → Ordered out xs → (j : ℕ) → Ungiven xs j → Free xs (j / grain) → ⊥
not_free xs o j (inl g) f = free_gap (one_block (j / grain) gap (free f.0) xs o g f.1)
not_free xs o j (inr h) f = omega (arith, h, at_end_lem (j / grain) (free f.0) 0 xs f.1, at_whole (j / grain) (free f.0) 0 out xs o f.1)

-- so nothing is written there
spares : (xs ys : List Block) (y : ℕ) → (Either xs ys y → ⊥) → (w : List Write) → Each (Proper xs ys) w → Spared Next y w × Spared Prev y w
spares xs ys y n [] h = (tt, tt)
spares xs ys y n (w ∷ l) h =
    let i = spares xs ys y n l h.1 in (
      ((λ e q. n (subst (Either xs ys) q (h.0 (inl e)))), i.0),
      ((λ e q. n (subst (Either xs ys) q (h.0 (inr e)))), i.1),
    )

-- nor moved
not_moved : (ys : List Block) → Ordered out ys → (t : Plan) (p a j : ℕ) → Backed ys (loan t.answer p a) → t.moved < p → Ungiven ys j → NotMoved t j
not_moved ys o t p a j b l (inl g) = go (apart b.x (j / grain) 0 (used b.s b.d) gap ys b.block g)
  where
    go : Apart b.x (used b.s b.d) (j / grain) gap → NotMoved t j
    go (same e q) = let z : ◌≡◌ {A = ℕ} 0 1 = cc in absurd (omega arith)
    go (before e) = inl (omega (arith, e, b.place, b.long))
    go (behind e) = inr (omega (arith, e, b.place))
not_moved ys o t p a j b l (inr h) = inl (omega (arith, h, b.place, b.long, at_end_lem b.x (used b.s b.d) 0 ys b.block))

module _ (S : Slices) (xs : List Block) (o : Rowed S xs) (j : ℕ) where
  stored_isolated : (K : Call) (t : Plan) (w : Survives (grains_of S) classes (memory_of S) xs (λ k. []) K t) → outcome S K ≡ ok t → Ungiven xs j → Ungiven w.heap.blocks j → SameAt S (stored S K t) j
  stored_isolated K t w e u v = go K w e v outside
    where
      outside : AllOutside j (writes t)
      outside =
          let i = spares xs w.heap.blocks (j / grain)
          (λ f. ⊎_elim (not_free xs o.order j u) (not_free w.heap.blocks w.armoured.row.order j v) f) (writes t) w.armoured.proper in
          spared_outside j (writes t) i.0 i.1

      go : (K : Call) (w : Survives (grains_of S) classes (memory_of S) xs (λ k. []) K t) → outcome S K ≡ ok t → Ungiven w.heap.blocks j → AllOutside j (writes t) → SameAt S (stored S K t) j
      go (Allocate p a) w e v f = stores_byte S (writes t) j f
      go (Deallocate q) w e v f = stores_byte S (writes t) j f
      go (Reallocate q p a) w e v f =
          let k = ends_gives (λ (t : Plan). Settled q p a t.answer t.moved) (memory_of S) (reallocate_script (grains_of S) classes q p a) (reallocate_settled (grains_of S) classes q p a) e in
          ⊎_elim
          (λ (i : t.moved ≡ 0). ap (λ (T : Slices). get_or T.arena j 0) (carried_still S q t i) ∙ stores_byte S (writes t) j f)
          (λ (i : t.moved < p). carried_kept S q t j (not_moved w.heap.blocks w.armoured.row.order t p a j w.lent i v) f)
          k.fewer
      go (Insert g len) w e v f = stores_byte S (writes t) j f
      go (Append g len) w e v f = stores_byte S (writes t) j f

pub performs_isolated : (S : Slices) (k : ByteCall) (r : Reply) (T : Slices) → Sized S → Performs S k r T → (xs ys : List Block) → Rowed S xs → Rowed T ys
    → (j : ℕ) → Ungiven xs j → Ungiven ys j → SameAt S T j
performs_isolated S k r T z (early i e) xs ys o v j a b = refl
performs_isolated S k r T z (refused K i g e) xs ys o v j a b = refl
performs_isolated S k r T z (granted K t g e) xs ys o v j a b =
    let fair = asks_fair k K g.asks in
    let w = call_survives (grains_of S) classes (most_of S) (memory_of S) xs (λ k. []) K t (omega arith) o fair e in
    let u = row_unique (grains_of (stored S K t)) classes (memory_of (stored S K t)) ys w.heap.blocks v (stored_row S z K t (goes_long S k K g.long g.asks) fair e xs w.heap.blocks w.armoured) in
    stored_isolated S xs o j K t w e a (subst (λ (zs : List Block). Ungiven zs j) u b)
