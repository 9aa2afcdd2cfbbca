-- T6 of deallocate and reallocate. Where the tags are right, each is refused with 3 exactly where no block in use has its payload
-- there. On slices that stand for a heap a live payload is given back, and one that is resized is refused with 1 alone, exactly
-- where there is room neither beside it nor elsewhere.
use Rattle.std.specs.Prelude.{ℕ, ◌+◌, ◌-◌, ◌*◌, ◌/◌, ◌%◌, ◌≡◌, List, [], ◌∷◌, ◌⊎◌}
use Rattle.std.proofs.Common.{arith, ap, sym, ◌∙◌, subst, inl, inr, ⊎_elim}
use Rattle.std.proofs.Math.Path.{refl}
use Rattle.choice.specs.Choice.{same?}
use Rattle.definition.specs.Blocks.{Block}
use Rattle.definition.specs.Units.{halves, multiple}
use Rattle.definition.specs.Calls.{Heap}
use Rattle.invariants.proofs.Live.{live_back}
use Rattle.invariants.specs.Cramped.{Cramped}
use Rattle.invariants.specs.Promises.{refused_exactly}
use Rattle.script.specs.Memory.{Memory}
use Rattle.script.specs.Script.{ok, no, run, Gives}
use Rattle.script.proofs.Script.{goes, ends_gives}
use Rattle.sound.proofs.Refused.{stops_bind, stops_with}
use Rattle.sound.specs.RefusedCalls.{Among}
use Rattle.request.specs.Asked.{InRange}
use Rattle.request.specs.Returned.{Suits, OfKind, Stands}
use Rattle.machine.specs.Machine.{half, classes}
use Rattle.plans.specs.Checks.{Owner, see_owner, see_guard, see_after, see_before, see_join}
use Rattle.plans.specs.Deeds.{Plan}
use Rattle.plans.specs.Deallocate.{deallocate_script}
use Rattle.plans.specs.Reallocate.{resize_script, reallocate_script}
use Rattle.plans.specs.Calls.{Call, Deallocate, Reallocate}
use Rattle.refines.specs.Sounds.{Meets}
use Rattle.armour.specs.Dead.{NotLiveIn}
use Rattle.armour.proofs.Dead.{deallocate_dead, reallocate_dead}
use Rattle.refines.proofs.SeenOwner.{owner_gives}
use Rattle.refines.proofs.DeallocateMeets.{deallocate_meets}
use Rattle.refines.proofs.Calls.{reallocate_refused_exactly as script_cramped}
use Rattle.refines.specs.Runs.{Reply, yes, not}
use Rattle.lent.specs.Slices.{Slices, memory_of}
use Rattle.promises.specs.Bytes.{AtHalf, deallocate, reallocate, between, resize_between, Asks, back, resize}
use Rattle.promises.specs.Performs.{grains_of, LongEnough, outcome, Early, Goes, Performs, early, refused, granted, Rowed, Stand}
use Rattle.promises.specs.Terms.{Holds, Dead, NoList}
use Rattle.promises.proofs.Offsets.{stands_offset, half_offset, kind_half, half_kind, range_align}
use Rattle.promises.proofs.One.{performs_one, refused_by, refused_in}
use Rattle.promises.proofs.Settled.{deallocate_answers}
use Rattle.promises.proofs.Stops.{stops_guard, stops_after, stops_before, stops_join, stops_plan, stops_resize}
use Rattle.promises.proofs.Conditions.{performs_never_5}

-- ---- scripts, when the payload's block is known

module _ (m : Memory) (n c q : ℕ) {o : Owner} (g : Gives m (see_owner n q) o) where
  deallocate_stops : (i : ℕ) → run m (deallocate_script n c q) ≡ no i → i ≡ 5
  unfolding deallocate_script
  deallocate_stops i e = stops_with (λ (r : ℕ). r ≡ 5) m _
      (stops_bind (λ (r : ℕ). r ≡ 5) (see_guard o.at) _ (stops_guard (λ (r : ℕ). r ≡ 5) refl o.at) λ _.
      stops_bind (λ (r : ℕ). r ≡ 5) (see_after n c (o.at + o.grains)) _ (stops_after (λ (r : ℕ). r ≡ 5) refl n c _) λ b.
      stops_bind (λ (r : ℕ). r ≡ 5) (see_before n c o.at) _ (stops_before (λ (r : ℕ). r ≡ 5) refl n c _) λ a.
      stops_bind (λ (r : ℕ). r ≡ 5) (see_join n c (a + (o.grains + b))) _ (stops_join (λ (r : ℕ). r ≡ 5) refl n c _) λ _. stops_plan (λ (r : ℕ). r ≡ 5) refl _)
      (sym (goes m (see_owner n q) _ g) ∙ e)

  reallocate_stops : (p a i : ℕ) → run m (reallocate_script n c q p a) ≡ no i → Among (1 ∷ 5 ∷ []) i
  unfolding reallocate_script
  reallocate_stops p a i e = stops_with (Among (1 ∷ 5 ∷ [])) m _
      (stops_bind (Among (1 ∷ 5 ∷ [])) (see_guard o.at) _ (stops_guard (Among (1 ∷ 5 ∷ [])) (inr (inl refl)) o.at) λ _.
      stops_bind (Among (1 ∷ 5 ∷ [])) (resize_script n c q p a o.at o.grains (q - 2 * o.at)) _ (stops_resize (Among (1 ∷ 5 ∷ [])) (inr (inl refl)) (inl refl) n c q p a _ _ _) λ t.
      stops_plan (Among (1 ∷ 5 ∷ [])) (inr (inl refl)) t)
      (sym (goes m (see_owner n q) _ g) ∙ e)

-- ---- where the tags are right

module _ (S : Slices) (xs : List Block) (o : Rowed S xs) (x q : ℕ) (e : half * q ≡ x) where
  owner_is : (y s d : ℕ) → Holds xs x y s d → Gives (memory_of S) (see_owner (grains_of S) q) (record { at = y; grains = s })
  owner_is y s d h =
      let u : 2 * y + d ≡ q = omega (arith, h.offset) in
      subst (λ (q : ℕ). Gives (memory_of S) (see_owner (grains_of S) q) (record { at = y; grains = s })) u (owner_gives (grains_of S) classes (memory_of S) xs o y s d h.block)

  not_live : Dead xs x → NotLiveIn xs q
  not_live dead y s d b i = dead y s d (record { block = b; offset = omega (arith, i) })

-- an offset between half grains is no payload's
between_dead : (xs : List Block) (x : ℕ) → (AtHalf x → ⊥) → Dead xs x
between_dead xs x n y s d h = n (omega (arith, h.offset))

-- what deallocate does not refuse it answers with 0, whatever is in the slices
pub deallocate_answer : (S : Slices) (x : ℕ) (r : Reply) (T : Slices) → Performs S (deallocate x) r T → (v : ℕ) → r ≡ yes v → v ≡ 0
deallocate_answer S x r T (early i a) v e = let z : ◌≡◌ {A = ℕ} 0 1 = cc in absurd (omega arith)
deallocate_answer S x r T (refused K i g f) v e = let z : ◌≡◌ {A = ℕ} 0 1 = cc in absurd (omega arith)
deallocate_answer S x r T (granted K t g f) v e = let z : t.answer ≡ v = cc in sym z ∙ asked K g.asks f
  where
    asked : (K : Call) → Asks (deallocate x) K → outcome S K ≡ ok t → t.answer ≡ 0
    asked K (back h) f = ends_gives (λ (t : Plan). t.answer ≡ 0) (memory_of S) (deallocate_script (grains_of S) classes (x / half)) (deallocate_answers (grains_of S) classes (x / half)) f

module _ (S : Slices) (x : ℕ) (r : Reply) (T : Slices) (p : Performs S (deallocate x) r T) (l : LongEnough S) where
  returning : AtHalf x → Goes S (deallocate x) (Deallocate (x / half))
  returning e = record { long = l; asks = back e }

  pub deallocate_refused_exactly : (xs : List Block) → Rowed S xs → (r ≡ not 3 → Dead xs x) × (Dead xs x → r ≡ not 3)
  deallocate_refused_exactly xs o = ⊎_elim
      (λ (e : x % half ≡ 0). let h = half_offset x e in (
        (λ i y s d b. let z = deallocate_stops (memory_of S) (grains_of S) classes (x / half) (owner_is S xs o x (x / half) h y s d b) 3
            (refused_in S (deallocate x) (Deallocate (x / half)) (returning e) r T 3 p i) in omega (arith, z)),
        (λ dead. refused_by S (deallocate x) (Deallocate (x / half)) (returning e) r T 3 p (deallocate_dead (grains_of S) classes (memory_of S) xs o (x / half) (not_live S xs o x (x / half) h dead))),
      ))
      (λ (n : x % half ≡ 0 → ⊥). ((λ _. between_dead xs x n), (λ _. (performs_one S (deallocate x) r (not 3) T S p (early 3 (Early.wrong 3 l (between n)))).0)))
      (same? (x % half) 0)

  -- on slices that stand for a heap a live payload is never refused
  pub live_returned : (h : Heap) → Stand S h → (y s d : ℕ) → Holds h.blocks x y s d → (i : ℕ) → r ≡ not i → ⊥
  live_returned h o y s d b i e =
      let a : x % half ≡ 0 = omega (arith, b.offset) in
      let u : x / half ≡ 2 * y + d = omega (arith, b.offset) in
      let k = subst (Meets (grains_of S) classes (memory_of S) (deallocate_script (grains_of S) classes (2 * y + d))) (live_back h y s d b.block o.row.order) (deallocate_meets (grains_of S) classes (memory_of S) h o (2 * y + d)) in
      let v = subst (λ (q : ℕ). outcome S (Deallocate q) ≡ no i) u (refused_in S (deallocate x) (Deallocate (x / half)) (returning a) r T i p e) in
      let w = k.gives in
      let z : ◌≡◌ {A = ℕ} 0 1 = cc in
      omega arith

-- ---- reallocate

kind? : (x : ℕ) → OfKind x ⊎ (OfKind x → ⊥)
kind? x = ⊎_elim (λ (e : x % half ≡ 0). inl (half_kind x e)) (λ (n : x % half ≡ 0 → ⊥). inr (λ k. n (kind_half x k))) (same? (x % half) 0)

module _ (S : Slices) (x n a : ℕ) (r : Reply) (T : Slices) (p : Performs S (reallocate x n a) r T) (l : LongEnough S) (i : InRange n a) (su : Suits x a) where
  abbrev asked : Call
  asked = Reallocate (x / half) (halves half n) (multiple half a)

  there : OfKind x → Stands x a (x / half)
  there k = record { suits = su; kind = k; number = refl }

  resizing : OfKind x → Goes S (reallocate x n a) (Reallocate (x / half) (halves half n) (multiple half a))
  resizing k = record { long = l; asks = resize i (there k) }

  -- a live payload is refused with 1 or 5
  live_stops : (xs : List Block) → Rowed S xs → (y s d : ℕ) → Holds xs x y s d → OfKind x → (j : ℕ) → r ≡ not j → Among (1 ∷ 5 ∷ []) j
  live_stops xs o y s d b k j e = reallocate_stops (memory_of S) (grains_of S) classes (x / half) (owner_is S xs o x (x / half) (stands_offset (there k)) y s d b) (halves half n) (multiple half a) j
      (refused_in S (reallocate x n a) asked (resizing k) r T j p e)

  pub reallocate_refused_exactly : (xs : List Block) → Rowed S xs → (r ≡ not 3 → Dead xs x) × (Dead xs x → r ≡ not 3)
  reallocate_refused_exactly xs o = ⊎_elim
      (λ (k : OfKind x). (
        (λ e y s d b. not_three (live_stops xs o y s d b k 3 e)),
        (λ dead. refused_by S (reallocate x n a) asked (resizing k) r T 3 p
            (reallocate_dead (grains_of S) classes (memory_of S) xs o (x / half) (not_live S xs o x (x / half) (stands_offset (there k)) dead) (halves half n) (multiple half a))),
      ))
      (λ (no_kind : OfKind x → ⊥). (
        (λ _. between_dead xs x (λ e. no_kind (half_kind x e))),
        (λ _. (performs_one S (reallocate x n a) r (not 3) T S p (early 3 (Early.wrong 3 l (resize_between i su no_kind)))).0),
      ))
      (kind? x)
    where
      not_three : Among (1 ∷ 5 ∷ []) 3 → ⊥
      not_three (inl e) = omega arith
      not_three (inr (inl e)) = omega arith
      not_three (inr (inr e)) = e

  module _ (h : Heap) (o : Stand S h) (y s d : ℕ) (b : Holds h.blocks x y s d) where
    live_kind : OfKind x
    live_kind = half_kind x (omega (arith, b.offset))

    -- on slices that stand for a heap, with 1 alone
    pub live_resized : (j : ℕ) → r ≡ not j → j ≡ 1
    live_resized j e = go (live_stops h.blocks o.row y s d b live_kind j e)
      where
        go : Among (1 ∷ 5 ∷ []) j → j ≡ 1
        go (inl q) = q
        go (inr (inl q)) = absurd (performs_never_5 S (reallocate x n a) r T p h o (e ∙ ap not q))
        go (inr (inr q)) = absurd q

    place_is : x / half ≡ 2 * y + d
    place_is = omega (arith, b.offset)

    pub reallocate_cramped : (r ≡ not 1 → Cramped h y s d (halves half n) (multiple half a) b.block × NoList h n a)
        × (Cramped h y s d (halves half n) (multiple half a) b.block × NoList h n a → r ≡ not 1)
    reallocate_cramped =
        let c = script_cramped (grains_of S) classes (memory_of S) h o y s d (halves half n) (multiple half a) b.block (range_align i) in
        let u = refused_exactly classes h (halves half n) (multiple half a) in (
          (λ e. let v = c.0 (subst (λ (q : ℕ). outcome S (Reallocate q (halves half n) (multiple half a)) ≡ no 1) place_is (refused_in S (reallocate x n a) asked (resizing live_kind) r T 1 p e)) in
              (v.0, u.0 v.1)),
          (λ f. refused_by S (reallocate x n a) asked (resizing live_kind) r T 1 p
              (subst (λ (q : ℕ). outcome S (Reallocate q (halves half n) (multiple half a)) ≡ no 1) (sym place_is) (c.1 (f.0, u.1 f.1)))),
        )
