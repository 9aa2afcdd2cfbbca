-- T4 of the calls on slices: what a call does to slices that stand for a heap is what the definition says, and the slices
-- afterwards stand for the definition's heap.
use Rattle.std.specs.Prelude.{ℕ, ◌+◌, ◌*◌, ◌≤◌, ◌<◌, ◌≡◌, List, [], ◌⊎◌, length, get_or}
use Rattle.std.proofs.Common.{arith, ap, sym, ◌∙◌, subst, inl, inr, ⊎_elim}
use Rattle.std.proofs.Math.ListN.{get_or-eq_default}
use Rattle.choice.specs.Choice.{le?}
use Rattle.table.specs.Table.{entry}
use Rattle.definition.specs.Blocks.{Block, free, used}
use Rattle.definition.specs.Calls.{Heap}
use Rattle.invariants.specs.Order.{out, some, BlockAt, Apart, same, before, behind}
use Rattle.invariants.proofs.Order.{apart, at_whole}
use Rattle.script.specs.Memory.{Memory, Table}
use Rattle.script.specs.Script.{Result, ok, no}
use Rattle.script.proofs.Script.{ends_gives}
use Rattle.machine.specs.Machine.{half, grain, classes}
use Rattle.plans.specs.Deeds.{Plan, writes, after}
use Rattle.plans.specs.Calls.{Call, Allocate, Deallocate, Reallocate, Insert, Append, Fair}
use Rattle.plans.specs.Reallocate.{reallocate_script}
use Rattle.armour.specs.Row.{Sound}
use Rattle.armour.specs.Ledger.{Backed}
use Rattle.refines.specs.Runs.{Reply, yes, not, Model, Stands, Agrees, reply, written, answers, next}
use Rattle.refines.proofs.Runs.{one_agrees}
use Rattle.lent.specs.Slices.{Slices, memory_of, stores}
use Rattle.lent.proofs.Fields.{memory_table}
use Rattle.lent.proofs.Kept.{stores_lengths, grains_keep}
use Rattle.promises.specs.Bytes.{ByteCall, allocate, deallocate, reallocate, insert, append, Asks, bytes, in_bytes}
use Rattle.lent.specs.Shifted.{carried_out}
use Rattle.promises.specs.Performs.{grains_of, most_of, Long, AllLong, Sized, outcome, Early, short, stored, Performs, early, refused, granted, Stand, model_of, Defines}
use Rattle.promises.specs.Terms.{SameAt, Fills, Refined}
use Rattle.promises.proofs.Offsets.{asks_fair}
use Rattle.promises.proofs.Carrying.{carried_still, carried_lengths, carried_tables, carried_byte}
use Rattle.promises.specs.Storable.{LongFor}
use Rattle.promises.proofs.Storable.{goes_long, stored_memory, stored_field}
use Rattle.promises.specs.Settled.{Settled}
use Rattle.promises.proofs.Settled.{reallocate_settled}
use Rattle.promises.specs.Survives.{loan}
use Rattle.promises.proofs.Survives.{call_survives}
use Rattle.promises.proofs.Filling.{row_unique, fills_stand}

-- ---- the table of the regions counts no more than it holds

entry_after : (S : Slices) (i : ℕ) → length S.regions ≤ i → entry S.regions i ≡ 0
unfolding entry
entry_after S i h = get_or-eq_default S.regions 0 h

count_most : (S : Slices) (h : Heap) → Stand S h → entry S.regions 0 ≤ most_of S
count_most S h o = ⊎_elim
    (λ (e : entry S.regions 0 ≤ most_of S). e)
    (λ (e : most_of S < entry S.regions 0).
    let i = most_of S in
    let k = o.row.given.sane i (rw (memory_table S 0) e) in
    absurd (omega (arith, k.0, memory_table S (2 * i + 2), entry_after S (2 * i + 2) (omega arith))))
    (le? (entry S.regions 0) (most_of S))

pub stand_model : (S : Slices) (h : Heap) → Stand S h → Stands (grains_of S) classes (most_of S) (memory_of S) (model_of S h)
stand_model S h o = record { sound = o; count = memory_table S 0; few = count_most S h o }

-- a model is its heap and its number
model_is : (s : Model) (n : ℕ) → n ≡ s.regions → record { heap = s.heap; regions = n } ≡ s
model_is s n e = ap (λ (r : ℕ). record { heap = s.heap; regions = r }) e

-- ---- a payload is moved to where no block starts

module _ (S : Slices) (g : Heap) (q p a : ℕ) (t : Plan) (b : Backed g.blocks (loan t.answer p a)) (less : (t.moved ≡ 0) ⊎ (t.moved < p)) (o : Sound (grains_of S) classes (after (memory_of S) t) g) where
  start_clear : (x : ℕ) (c : Block) → BlockAt x c 0 g.blocks → (t.moved ≡ 0) ⊎ ((2 * x < t.answer) ⊎ (t.answer + t.moved ≤ 2 * x))
  start_clear x c h = ⊎_elim
      (λ (e : t.moved ≡ 0). inl e)
      (λ (l : t.moved < p). inr (go l (apart x b.x 0 c (used b.s b.d) g.blocks h b.block)))
      less
    where
      go : t.moved < p → Apart x c b.x (used b.s b.d) → (2 * x < t.answer) ⊎ (t.answer + t.moved ≤ 2 * x)
      go l (same e k) = inl (omega (arith, b.place, (at_whole b.x (used b.s b.d) 0 out g.blocks o.row.order b.block).1.some))
      go l (before e) = inl (omega (arith, b.place, some c (at_whole x c 0 out g.blocks o.row.order h)))
      go l (behind e) = inr (omega (arith, b.place, b.long))

  start_same : (x : ℕ) (c : Block) → BlockAt x c 0 g.blocks → (j : ℕ) → grain * x ≤ j → j < grain * x + half → SameAt (stores S (writes t)) (carried_out S q t) j
  start_same x c h j low high = ⊎_elim
      (λ (e : t.moved ≡ 0). ap (λ (T : Slices). get_or T.arena j 0) (carried_still S q t e))
      (λ (e : (2 * x < t.answer) ⊎ (t.answer + t.moved ≤ 2 * x)). (carried_byte S q t j (⊎_elim
      (λ (i : 2 * x < t.answer). inr (omega arith))
      (λ (i : t.answer + t.moved ≤ 2 * x). inl (omega arith)) e)).1)
      (start_clear x c h)

  -- so it is as if the caller had written there
  moved_fills : Fills g.blocks (stores S (writes t)) (carried_out S q t)
  moved_fills = record {
    size = (carried_lengths S q t).arena ∙ sym (stores_lengths S (writes t)).arena;
    frees = λ x s h. start_same x (free s) h;
    useds = λ x s d h. start_same x (used s d) h;
    tables = carried_tables S q t;
  }

-- ---- what is stored stands for what the memory after the plan stands for

module _ (S : Slices) (z : Sized S) (h : Heap) (o : Stand S h) (t : Plan) (g : Heap) (v : Sound (grains_of S) classes (after (memory_of S) t) g) where
  stores_stand : (K : Call) → LongFor S K → Fair K → outcome S K ≡ ok t → Stand (stores S (writes t)) g
  stores_stand K l fair e = subst (λ (n : ℕ). Sound n classes (memory_of (stores S (writes t))) g) (sym (grains_keep S.arena (stores S (writes t)).arena (stores_lengths S (writes t)).arena))
      (subst (λ (m : Memory). Sound (grains_of S) classes m g) (sym (stored_memory S z K t l fair e)) v)

  pub stored_stands : (K : Call) → LongFor S K → Fair K → outcome S K ≡ ok t → Stand (stored S K t) g
  stored_stands (Allocate p a) l fair e = stores_stand (Allocate p a) l fair e
  stored_stands (Deallocate q) l fair e = stores_stand (Deallocate q) l fair e
  stored_stands (Reallocate q p a) l fair e =
      let w = call_survives (grains_of S) classes (most_of S) (memory_of S) h.blocks (λ k. []) (Reallocate q p a) t (omega arith) o.row fair e in
      let u = row_unique (grains_of S) classes (after (memory_of S) t) w.heap.blocks g.blocks w.armoured.row v.row in
      let k = ends_gives (λ (t : Plan). Settled q p a t.answer t.moved) (memory_of S) (reallocate_script (grains_of S) classes q p a) (reallocate_settled (grains_of S) classes q p a) e in
      fills_stand g (stores S (writes t)) (carried_out S q t)
      (moved_fills S g q p a t (subst (λ (ys : List Block). Backed ys (loan t.answer p a)) u w.lent) k.fewer v) (stores_stand (Reallocate q p a) l fair e)
  stored_stands (Insert x len) l fair e = stores_stand (Insert x len) l fair e
  stored_stands (Append x len) l fair e = stores_stand (Append x len) l fair e

-- ---- T4

-- the tables that a call needs are among all tables
pub long_each : (S : Slices) (k : ByteCall) → AllLong S → Long S k
long_each S (allocate n a) l = l.tables
long_each S (deallocate x) l = l.tables
long_each S (reallocate x n a) l = l.tables
long_each S (insert b n) l = (l.tables, l.some)
long_each S (append b n) l = (l.tables, l.some)

module _ (S : Slices) (h : Heap) (o : Stand S h) (k : ByteCall) (K : Call) (a : Asks k K) where
  -- what the script answers is what the definition does
  pub agrees : Agrees (grains_of S) classes (most_of S) (memory_of S) (outcome S K) (answers classes (most_of S) K (model_of S h)) (next classes (most_of S) K (model_of S h))
  agrees = one_agrees (grains_of S) classes (most_of S) (memory_of S) K (model_of S h) (omega arith) (asks_fair k K a) (stand_model S h o)

  abbrev pub left : Model
  left = next classes (most_of S) K (model_of S h)

  -- the reply r and the number of regions in T are the definition's
  told : (T : Slices) (r : Reply) → in_bytes k (answers classes (most_of S) K (model_of S h)) ≡ r → entry T.regions 0 ≡ left.regions → Stand T left.heap → Refined S h k r T
  told T r e c s = record {
    heap = left.heap;
    defined = subst (Defines (most_of S) (model_of S h) k r) (sym (model_is left (entry T.regions 0) c))
        (subst (λ (u : Reply). Defines (most_of S) (model_of S h) k u left) e (Defines.asked K a));
    stands = s;
  }

  stands_for : (u : Result Plan) → outcome S K ≡ u → Stands (grains_of S) classes (most_of S) (written (memory_of S) u) left
  stands_for u e = subst (λ (u : Result Plan). Stands (grains_of S) classes (most_of S) (written (memory_of S) u) left) e agrees.stands

  heard : (u : Result Plan) → outcome S K ≡ u → in_bytes k (answers classes (most_of S) K (model_of S h)) ≡ in_bytes k (reply u)
  heard u e = ap (in_bytes k) (sym agrees.heard ∙ ap reply e)

  pub refined_no : (i : ℕ) → outcome S K ≡ no i → Refined S h k (not i) S
  refined_no i e = let s = stands_for (no i) e in told S (not i) (heard (no i) e) (sym (memory_table S 0) ∙ s.count) s.sound

  pub refined_ok : Sized S → Long S k → (t : Plan) → outcome S K ≡ ok t → Refined S h k (yes (bytes k t.answer)) (stored S K t)
  refined_ok z l t e =
      let s = stands_for (ok t) e in
      let fair = asks_fair k K a in
      let m = goes_long S k K l a in
      told (stored S K t) (yes (bytes k t.answer)) (heard (ok t) e)
      (sym (memory_table (stored S K t) 0) ∙ ap (λ (f : ℕ → ℕ). f 0) (stored_field S z K t m fair e Table (omega arith, omega arith)) ∙ s.count)
      (stored_stands S z h o t left.heap s.sound K m fair e)

module _ (S : Slices) (z : Sized S) (h : Heap) (o : Stand S h) (k : ByteCall) (l : Long S k) where
  -- refused early
  refined_early : (i : ℕ) → Early S k i → Refined S h k (not i) S
  refined_early i (short n) = absurd (n l)
  refined_early i (Early.wrong j g w) = record { heap = h; defined = Defines.wrong i w; stands = o }

  pub performs_refines : (r : Reply) (T : Slices) → Performs S k r T → Refined S h k r T
  performs_refines r T (early i e) = refined_early i e
  performs_refines r T (refused K i g e) = refined_no S h o k K g.asks i e
  performs_refines r T (granted K t g e) = refined_ok S h o k K g.asks z g.long t e
