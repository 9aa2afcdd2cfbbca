-- What follows from specs/Conditions.antt.
use Rattle.std.specs.Prelude.{ℕ, ◌+◌, ◌*◌, ◌≤◌, ◌<◌, ◌≡◌, refl, []}
use Rattle.std.proofs.Common.{arith, ap, ◌∙◌, subst, ⊎_elim}
use Rattle.choice.specs.Choice.{le?}
use Rattle.class.specs.Class.{start_of}
use Rattle.definition.specs.Blocks.{free, used}
use Rattle.definition.specs.Units.{halves, multiple}
use Rattle.definition.specs.Calls.{Heap, wanted}
use Rattle.invariants.specs.Order.{BlockAt}
use Rattle.invariants.specs.NotLive.{NotLive}
use Rattle.invariants.specs.Cramped.{Cramped}
use Rattle.invariants.specs.Placing.{Align}
use Rattle.invariants.proofs.Placing.{align_pos}
use Rattle.invariants.specs.Promises.{refused_exactly}
use Rattle.invariants.proofs.Promises.{good_fit}
use Rattle.script.specs.Script.{no}
use Rattle.sound.proofs.LiveResize.{live_resize_refused, resize_refused_exactly, live_resize_refused_exactly}
use Rattle.sound.specs.Calls.{Call, Take, Return, Resize}
use Rattle.sound.proofs.Calls.{never_5, take_refused_exactly, back_refused_exactly, live_never_refused}
use Rattle.sound.specs.Runs.{Reply, not}
use Rattle.slices.specs.Slices.{Slices, memory_of}
use Rattle.request.specs.Alignment.{multiple_align}
use Rattle.request.specs.Asked.{InRange}
use Rattle.request.specs.Returned.{Stands}
use Rattle.calls.specs.Bytes.{ByteCall, allocate, deallocate, reallocate, range, unsuited, unkind, resize_range, resize_unsuited, resize_unkind, take, back, resize}
use Rattle.calls.specs.Performs.{Long, grains_of, most_of, outcome, Early, short, outside, Goes, Performs, early, refused, granted, Stand}
use Rattle.calls.specs.Refines.{Spare, behind_not_live}
use Rattle.calls.proofs.Refines.{asks_fair}
use Rattle.calls.proofs.Room.{room_or_full}
use Rattle.calls.proofs.One.{asks_one, goes_late, performs_one}
use Rattle.calls.specs.Conditions.{NoList}

-- ---- never 5

-- no early refusal is 5
early_not_5 : (S : Slices) (k : ByteCall) (i : ℕ) → Early S k i → i ≡ 5 → ⊥
early_not_5 S k i (short n) e = omega arith
early_not_5 S k i (Early.wrong j l (range n)) e = omega arith
early_not_5 S k i (Early.wrong j l (unsuited n)) e = omega arith
early_not_5 S k i (Early.wrong j l (unkind u n)) e = omega arith
early_not_5 S k i (Early.wrong j l (resize_range n)) e = omega arith
early_not_5 S k i (Early.wrong j l (resize_unsuited u n)) e = omega arith
early_not_5 S k i (Early.wrong j l (resize_unkind u v n)) e = omega arith
early_not_5 S k i (outside K l a n) e = omega arith

-- and the script's is none where the records are sound
pub performs_never_5 : (S : Slices) (k : ByteCall) (r : Reply) (T : Slices) (h : Heap) → Stand S h → Performs S k r T → r ≡ not 5 → ⊥
performs_never_5 S k r T h o (early i a) e = early_not_5 S k i a cc
performs_never_5 S k r T h o (refused K i g q) e =
    let z : i ≡ 5 = cc in
    ⊎_elim
    (λ (f : Spare S k). never_5 (grains_of S) 12 (most_of S) (memory_of 8 S) h o (omega arith) K (asks_fair S k K f g.asks) (q ∙ ap no z))
    (λ (f : outcome S K ≡ no 6). let u : i ≡ 6 = cc in omega arith)
    (room_or_full S h o k K g.asks)
performs_never_5 S k r T h o (granted K p g q) e = let z : ◌≡◌ {A = ℕ} 0 1 = cc in omega arith

-- ---- a call that goes on is refused exactly where its script is

module _ (S : Slices) (k : ByteCall) (K : Call) (g : Goes S k K) (r : Reply) (T : Slices) where
  -- the script refuses, so the call does
  refused_by : (i : ℕ) → Performs S k r T → outcome S K ≡ no i → r ≡ not i
  refused_by i p e = (performs_one S k r (not i) T S p (refused K i g e)).0

-- the call does, so the script refuses
refused_in : (S : Slices) (k : ByteCall) (K : Call) → Goes S k K → (i : ℕ) (r : Reply) (T : Slices) → Performs S k r T → r ≡ not i → outcome S K ≡ no i
refused_in S k K g i r T (early j a) e = absurd (goes_late S k K j g a)
refused_in S k K g i r T (refused L j f q) e =
    let z : j ≡ i = cc in
    ap (outcome S) (asks_one k K L g.asks f.asks) ∙ q ∙ ap no z
refused_in S k K g i r T (granted L p f q) e = let z : ◌≡◌ {A = ℕ} 0 1 = cc in absurd (omega arith)

-- ---- take

-- then, and only then, it is refused with 1
pub allocate_refused_exactly : (S : Slices) (n a : ℕ) (r : Reply) (T : Slices) (h : Heap) → Stand S h → Long S (allocate n a) → InRange n a
    → Performs S (allocate n a) r T → (r ≡ not 1 → NoList h n a) × (NoList h n a → r ≡ not 1)
allocate_refused_exactly S n a r T h o l i p =
    let K = Take (halves 16 n) (multiple 16 a) in
    let g : Goes S (allocate n a) K = record { long = l; asks = take i; inside = tt } in
    let c = take_refused_exactly (grains_of S) 12 (memory_of 8 S) h o (halves 16 n) (multiple 16 a) (multiple_align a i.alignment.power) in
    ((λ e. c.0 (refused_in S (allocate n a) K g 1 r T p e)), (λ f. refused_by S (allocate n a) K g r T 1 p (c.1 f)))

-- so never while a free block has 17/16 of the grains looked for
pub allocate_fits : (S : Slices) (n a : ℕ) (r : Reply) (T : Slices) (h : Heap) → Stand S h → Long S (allocate n a) → InRange n a → Performs S (allocate n a) r T
    → (y s : ℕ) → BlockAt y (free s) 0 h.blocks → 17 * wanted (halves 16 n) (multiple 16 a) ≤ 16 * s → r ≡ not 1 → ⊥
allocate_fits S n a r T h o l i p y s b f e =
    let u = multiple 16 a in
    good_fit 12 h (halves 16 n) u y s o.heap (align_pos u (multiple_align a i.alignment.power)) b f
    ((refused_exactly 12 h (halves 16 n) u).1 ((allocate_refused_exactly S n a r T h o l i p).0 e))

-- ---- a payload

-- a call about the payload at q is refused with 3 exactly where no block in use has its payload there, if its script is
not_live_exactly : (S : Slices) (k : ByteCall) (K : Call) (q : ℕ) (h : Heap) (r : Reply) (T : Slices) → Stand S h → Performs S k r T
    → (q < 2 * grains_of S → Goes S k K) → ((q < 2 * grains_of S → ⊥) → Early S k 3)
    → (outcome S K ≡ no 3 → NotLive h q) × (NotLive h q → outcome S K ≡ no 3) → (r ≡ not 3 → NotLive h q) × (NotLive h q → r ≡ not 3)
not_live_exactly S k K q h r T o p goes out c = ⊎_elim
    (λ (i : q + 1 ≤ 2 * grains_of S).
    let g = goes (omega arith) in
    ((λ e. c.0 (refused_in S k K g 3 r T p e)), (λ f. refused_by S k K g r T 3 p (c.1 f))))
    (λ (i : 2 * grains_of S < q + 1).
    let f : q < 2 * grains_of S → ⊥ = λ j. omega arith in
    ((λ _. behind_not_live (grains_of S) 12 (memory_of 8 S) h o q f), (λ _. (performs_one S k r (not 3) T S p (early 3 (out f))).0)))
    (le? (q + 1) (2 * grains_of S))

-- one that is live is inside the arena
live_inside : (S : Slices) (h : Heap) → Stand S h → (y s d : ℕ) → BlockAt y (used s d) 0 h.blocks → 2 * y + d < 2 * grains_of S
live_inside S h o y s d b = ⊎_elim
    (λ (j : 2 * y + d + 1 ≤ 2 * grains_of S). omega arith)
    (λ (j : 2 * grains_of S < 2 * y + d + 1). absurd (behind_not_live (grains_of S) 12 (memory_of 8 S) h o (2 * y + d) (λ v. omega arith) y s d b refl))
    (le? (2 * y + d + 1) (2 * grains_of S))

-- ---- return

module _ (S : Slices) (x a q : ℕ) (st : Stands x a q) (r : Reply) (T : Slices) (h : Heap) (o : Stand S h) (l : Long S (deallocate x a)) (p : Performs S (deallocate x a) r T) where
  going : q < 2 * grains_of S → Goes S (deallocate x a) (Return q)
  going i = record { long = l; asks = back st; inside = i }

  -- refused with 3 exactly where no block in use has its payload there
  pub deallocate_refused_exactly : (r ≡ not 3 → NotLive h q) × (NotLive h q → r ≡ not 3)
  deallocate_refused_exactly = not_live_exactly S (deallocate x a) (Return q) q h r T o p going (outside (Return q) l (back st)) (back_refused_exactly (grains_of S) 12 (memory_of 8 S) h o q)

  -- a live payload is never refused
  pub live_returned : (y s d : ℕ) → BlockAt y (used s d) 0 h.blocks → q ≡ 2 * y + d → (i : ℕ) → r ≡ not i → ⊥
  live_returned y s d b e i f = live_never_refused (grains_of S) 12 (memory_of 8 S) h o y s d i b
      (subst (λ (u : ℕ). outcome S (Return u) ≡ no i) e (refused_in S (deallocate x a) (Return q) (going (rw e (live_inside S h o y s d b))) i r T p f))

-- ---- resize

module _ (S : Slices) (x n a q : ℕ) (rg : InRange n a) (st : Stands x a q) (r : Reply) (T : Slices) (h : Heap) (o : Stand S h) (l : Long S (reallocate x n a))
    (p : Performs S (reallocate x n a) r T) where
  abbrev asked : Call
  asked = Resize q (halves 16 n) (multiple 16 a)

  aligned : Align (multiple 16 a)
  aligned = multiple_align a rg.alignment.power

  resizing : q < 2 * grains_of S → Goes S (reallocate x n a) asked
  resizing i = record { long = l; asks = resize rg st; inside = i }

  -- refused with 3 exactly where no block in use has its payload there
  pub reallocate_refused_exactly : (r ≡ not 3 → NotLive h q) × (NotLive h q → r ≡ not 3)
  reallocate_refused_exactly = not_live_exactly S (reallocate x n a) asked q h r T o p resizing (outside asked l (resize rg st))
      (resize_refused_exactly (grains_of S) 12 q (halves 16 n) (multiple 16 a) (memory_of 8 S) h aligned o)

  module _ (y s d : ℕ) (b : BlockAt y (used s d) 0 h.blocks) (e : q ≡ 2 * y + d) where
    goes_live : Goes S (reallocate x n a) asked
    goes_live = resizing (rw e (live_inside S h o y s d b))

    -- a live payload is refused with 1 alone
    pub live_resized : (i : ℕ) → r ≡ not i → i ≡ 1
    live_resized i f = live_resize_refused (grains_of S) 12 q (halves 16 n) (multiple 16 a) (memory_of 8 S) h aligned o y s d i b e
        (refused_in S (reallocate x n a) asked goes_live i r T p f)

    -- and this exactly where it has no room in place, none downwards, and every list that a take would search is empty
    pub reallocate_cramped : (r ≡ not 1 → Cramped h y s d (halves 16 n) (multiple 16 a) b × NoList h n a) × (Cramped h y s d (halves 16 n) (multiple 16 a) b × NoList h n a → r ≡ not 1)
    reallocate_cramped =
        let c = live_resize_refused_exactly (grains_of S) 12 q (halves 16 n) (multiple 16 a) (memory_of 8 S) h aligned o y s d b e in
        ((λ f. c.0 (refused_in S (reallocate x n a) asked goes_live 1 r T p f)), (λ f. refused_by S (reallocate x n a) asked goes_live r T 1 p (c.1 f)))
