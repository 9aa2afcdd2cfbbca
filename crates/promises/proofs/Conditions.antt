-- T6 and T9 of the calls on slices that stand for a heap: none is refused with 5; allocate is refused with 1 exactly where every
-- list that it searches is empty, so never while a free block is large enough.
use Rattle.std.specs.Prelude.{ℕ, ◌*◌, ◌≤◌, ◌≡◌}
use Rattle.std.proofs.Common.{arith, ap, sym, ◌∙◌}
use Rattle.choice.specs.Choice.{eq_case}
use Rattle.definition.specs.Blocks.{free}
use Rattle.definition.specs.Units.{halves, multiple}
use Rattle.definition.specs.Calls.{Heap, no_list, not_live, no_region, Answer, refused, granted, wanted}
use Rattle.invariants.specs.Order.{BlockAt}
use Rattle.invariants.proofs.Placing.{align_pos}
use Rattle.invariants.specs.Promises.{refused_exactly}
use Rattle.invariants.proofs.Promises.{good_fit}
use Rattle.script.specs.Script.{no}
use Rattle.request.specs.Asked.{InRange}
use Rattle.machine.specs.Machine.{half, classes}
use Rattle.plans.specs.Calls.{Call, Allocate}
use Rattle.refines.proofs.Seen.{sound_ok}
use Rattle.refines.specs.Calls.{answer_of}
use Rattle.refines.proofs.Calls.{allocate_refused_exactly as script_refused_exactly}
use Rattle.refines.specs.Runs.{Reply, not, Model, reply, said, asks, answers}
use Rattle.lent.specs.Slices.{Slices, memory_of}
use Rattle.promises.specs.Bytes.{ByteCall, allocate, range, between, resize_range, resize_unsuited, resize_between, take}
use Rattle.promises.specs.Performs.{grains_of, most_of, LongEnough, Early, short, Goes, Performs, Stand, model_of}
use Rattle.promises.specs.Terms.{NoList}
use Rattle.promises.proofs.Offsets.{range_align}
use Rattle.promises.proofs.One.{refused_by, refused_in}
use Rattle.promises.proofs.Refines.{agrees}

-- ---- never 5

-- no early refusal is 5
early_not_5 : (S : Slices) (k : ByteCall) (i : ℕ) → Early S k i → i ≡ 5 → ⊥
early_not_5 S k i (short n) e = omega arith
early_not_5 S k i (Early.wrong j l (range n)) e = omega arith
early_not_5 S k i (Early.wrong j l (between n)) e = omega arith
early_not_5 S k i (Early.wrong j l (resize_range n)) e = omega arith
early_not_5 S k i (Early.wrong j l (resize_unsuited u n)) e = omega arith
early_not_5 S k i (Early.wrong j l (resize_between u v n)) e = omega arith

-- nor does the definition answer so
said_not_5 : (w : Answer) → said w ≡ not 5 → ⊥
said_not_5 (refused no_list) e = let z : ◌≡◌ {A = ℕ} 1 5 = cc in omega arith
said_not_5 (refused not_live) e = let z : ◌≡◌ {A = ℕ} 3 5 = cc in omega arith
said_not_5 (refused no_region) e = let z : ◌≡◌ {A = ℕ} 4 5 = cc in omega arith
said_not_5 (granted v g) e = let z : ◌≡◌ {A = ℕ} 0 1 = cc in omega arith

answers_not_5 : (c most : ℕ) (K : Call) (s : Model) → answers c most K s ≡ not 5 → ⊥
answers_not_5 c most K s = eq_case (λ (r : Reply). r ≡ not 5 → ⊥) (asks K) 1 _ _
    (λ _. eq_case (λ (r : Reply). r ≡ not 5 → ⊥) s.regions most _ _
    (λ _ e. let z : ◌≡◌ {A = ℕ} 6 5 = cc in omega arith)
    (λ _. said_not_5 (answer_of c K s.heap)))
    (λ _. said_not_5 (answer_of c K s.heap))

pub performs_never_5 : (S : Slices) (k : ByteCall) (r : Reply) (T : Slices) → Performs S k r T → (h : Heap) → Stand S h → r ≡ not 5 → ⊥
performs_never_5 S k r T (Performs.early i a) h o e = early_not_5 S k i a cc
performs_never_5 S k r T (Performs.refused K i g q) h o e =
    let z : i ≡ 5 = cc in
    answers_not_5 classes (most_of S) K (model_of S h) (sym (agrees S h o k K g.asks).heard ∙ ap reply (q ∙ ap no z))
performs_never_5 S k r T (Performs.granted K t g q) h o e = let z : ◌≡◌ {A = ℕ} 0 1 = cc in omega arith

-- ---- allocate

module _ (S : Slices) (n a : ℕ) (r : Reply) (T : Slices) (p : Performs S (allocate n a) r T) (h : Heap) (o : Stand S h) (l : LongEnough S) (i : InRange n a) where
  asked : Call
  asked = Allocate (halves half n) (multiple half a)

  going : Goes S (allocate n a) (Allocate (halves half n) (multiple half a))
  going = record { long = l; asks = take i }

  pub allocate_refused_exactly : (r ≡ not 1 → NoList h n a) × (NoList h n a → r ≡ not 1)
  allocate_refused_exactly =
      let c = script_refused_exactly (grains_of S) classes (memory_of S) h o (halves half n) (multiple half a) (range_align i) in (
        (λ e. c.0 (refused_in S (allocate n a) (Allocate (halves half n) (multiple half a)) going r T 1 p e)),
        (λ f. refused_by S (allocate n a) (Allocate (halves half n) (multiple half a)) going r T 1 p (c.1 f)),
      )

  pub allocate_fits : (y s : ℕ) → BlockAt y (free s) 0 h.blocks → 17 * wanted (halves half n) (multiple half a) ≤ 16 * s → r ≡ not 1 → ⊥
  allocate_fits y s b f e =
      let u = multiple half a in
      good_fit classes h (halves half n) u y s (sound_ok (grains_of S) classes (memory_of S) h o) (align_pos u (range_align i)) b f
      ((refused_exactly classes h (halves half n) u).1 (allocate_refused_exactly.0 e))
