-- What follows from specs/Calls.antt.
use Rattle.std.specs.Prelude.{ℕ, ◌+◌, ◌*◌, ◌≤◌, ◌<◌, ◌≡◌, refl, []}
use Rattle.std.proofs.Common.{arith, ap, sym, ◌∙◌, subst}
use Rattle.choice.specs.Choice.{if_eq, eq_yes}
use Rattle.class.specs.Class.{start_of}
use Rattle.definition.specs.Blocks.{used}
use Rattle.definition.specs.Calls.{Heap, Refusal, no_list, not_live, no_region, Answer, refused, granted, wanted, take, resize}
use Rattle.invariants.specs.Order.{BlockAt}
use Rattle.invariants.proofs.Live.{live_back}
use Rattle.invariants.specs.Placing.{Align}
use Rattle.invariants.specs.Promises.{refused_exactly}
use Rattle.invariants.specs.Cramped.{Cramped}
use Rattle.invariants.proofs.Cramped.{cramped_exactly}
use Rattle.invariants.specs.NotLive.{NotLive}
use Rattle.script.specs.Memory.{Memory, Table}
use Rattle.script.specs.Script.{Script, done, stop, no, run}
use Rattle.script.proofs.Script.{reads, halts, runs_stop}
use Rattle.script.specs.Locality.{Reads, DiffersIn, Contained}
use Rattle.script.proofs.Locality.{contained}
use Rattle.sound.specs.LiveResize.{OnlyNoList}
use Rattle.sound.proofs.LiveResize.{resize_only}
use Rattle.plans.specs.Deeds.{Plan}
use Rattle.plans.specs.Allocate.{allocate_script}
use Rattle.plans.specs.Deallocate.{deallocate_script}
use Rattle.plans.specs.Reallocate.{reallocate_script}
use Rattle.plans.specs.Regions.{region_script}
use Rattle.plans.specs.Calls.{Call, Allocate, Deallocate, Reallocate, Insert, Append, script_of, Fair}
use Rattle.armour.specs.Row.{Sound}
use Rattle.armour.proofs.Dead.{deallocate_dead, reallocate_dead}
use Rattle.refines.specs.Sounds.{number, Meets}
use Rattle.refines.proofs.Seen.{sound_ok}
use Rattle.refines.proofs.AllocateMeets.{allocate_meets}
use Rattle.refines.proofs.DeallocateMeets.{deallocate_meets}
use Rattle.refines.proofs.ReallocateWhole.{reallocate_meets}
use Rattle.refines.proofs.RegionMeets.{insert_meets, append_meets}
use Rattle.refines.specs.Calls.{answer_of, NeedsRoom}

module _ (n c most : ℕ) (m : Memory) (h : Heap) (o : Sound n c m h) (big : 1 ≤ c) where
  -- T4: each call does what the definition says
  pub call_meets : (k : Call) → Fair k → (NeedsRoom k → m Table 0 < most) → Meets n c m (script_of n c most k) (answer_of c k h)
  call_meets (Allocate p a) fair room = allocate_meets n c p a m h fair o
  call_meets (Deallocate q) fair room = deallocate_meets n c m h o q
  call_meets (Reallocate q p a) fair room = reallocate_meets n c p a m h fair.0 o q
  call_meets (Insert g len) fair room = insert_meets most n c g len m h o big (room tt)
  call_meets (Append g len) fair room = append_meets most n c g len m h o big (room tt)

-- T6: a full table is refused with 6
pub full_refused : (most behind n c g len : ℕ) (m : Memory) → m Table 0 ≡ most → run m (region_script most behind n c g len) ≡ no 6
unfolding region_script
full_refused most behind n c g len m e = reads m Table 0 _ refl ∙ halts m (if_eq (m Table 0) most (stop 6) (done (tt {0}))) _ (ap (run m) (eq_yes (m Table 0) most _ _ e) ∙ runs_stop m 6)

-- T6: nothing is refused with 5 where the memory is sound
pub meets_never_5 : (n c : ℕ) (m : Memory) (s : Script Plan) (w : Answer) → Meets n c m s w → run m s ≡ no 5 → ⊥
meets_never_5 n c m s (refused no_list) k e = let z : ◌≡◌ {A = ℕ} 1 5 = cc in omega arith
meets_never_5 n c m s (refused not_live) k e = let z : ◌≡◌ {A = ℕ} 3 5 = cc in omega arith
meets_never_5 n c m s (refused no_region) k e = let z : ◌≡◌ {A = ℕ} 4 5 = cc in omega arith
meets_never_5 n c m s (granted v g) k e = let i = k.gives in let z : ◌≡◌ {A = ℕ} 0 1 = cc in omega arith

-- what refuses with a number has that answer
meets_no : (n c : ℕ) (m : Memory) (s : Script Plan) (w : Answer) (x : Refusal) → Meets n c m s w → run m s ≡ no (number x) → w ≡ refused x
meets_no n c m s (refused no_list) no_list k e = refl
meets_no n c m s (refused no_list) not_live k e = let z : ◌≡◌ {A = ℕ} 1 3 = cc in absurd (omega arith)
meets_no n c m s (refused no_list) no_region k e = let z : ◌≡◌ {A = ℕ} 1 4 = cc in absurd (omega arith)
meets_no n c m s (refused not_live) no_list k e = let z : ◌≡◌ {A = ℕ} 3 1 = cc in absurd (omega arith)
meets_no n c m s (refused not_live) not_live k e = refl
meets_no n c m s (refused not_live) no_region k e = let z : ◌≡◌ {A = ℕ} 3 4 = cc in absurd (omega arith)
meets_no n c m s (refused no_region) no_list k e = let z : ◌≡◌ {A = ℕ} 4 1 = cc in absurd (omega arith)
meets_no n c m s (refused no_region) not_live k e = let z : ◌≡◌ {A = ℕ} 4 3 = cc in absurd (omega arith)
meets_no n c m s (refused no_region) no_region k e = refl
meets_no n c m s (granted v g) x k e = let i = k.gives in let z : ◌≡◌ {A = ℕ} 0 1 = cc in absurd (omega arith)

-- what meets an answer that is refused for want of a list, if at all, is refused with 1, if at all
meets_only : (n c : ℕ) (m : Memory) (s : Script Plan) (w : Answer) (i : ℕ) → OnlyNoList w → Meets n c m s w → run m s ≡ no i → i ≡ 1
meets_only n c m s (refused v) i f k e = let j : number v ≡ i = cc in sym j ∙ ap number (f v refl)
meets_only n c m s (granted v g) i f k e = let j = k.gives in let z : ◌≡◌ {A = ℕ} 0 1 = cc in absurd (omega arith)

module _ (n c : ℕ) (m : Memory) (h : Heap) (o : Sound n c m h) where
  -- T6: allocate is refused with 1 exactly when every list from its search start on is empty
  pub allocate_refused_exactly : (p a : ℕ) → Align a
      → (run m (allocate_script n c p a) ≡ no 1 → (j : ℕ) → start_of (wanted p a) ≤ j → j < 16 * c → h.lists j ≡ [])
      × (((j : ℕ) → start_of (wanted p a) ≤ j → j < 16 * c → h.lists j ≡ []) → run m (allocate_script n c p a) ≡ no 1)
  allocate_refused_exactly p a al =
      let k = allocate_meets n c p a m h al o in
      let e = refused_exactly c h p a in
      ((λ i. e.0 (meets_no n c m (allocate_script n c p a) (take c h p a) no_list k i)), (λ f. subst (Meets n c m (allocate_script n c p a)) (e.1 f) k))

  -- T6: deallocate is refused with 3 exactly when the payload is not live
  pub deallocate_refused_exactly : (q : ℕ) → (run m (deallocate_script n c q) ≡ no 3 → NotLive h q) × (NotLive h q → run m (deallocate_script n c q) ≡ no 3)
  deallocate_refused_exactly q = (
    (λ e x s d b i. live_granted x s d b (subst (λ (u : ℕ). run m (deallocate_script n c u) ≡ no 3) i e)),
    (λ f. deallocate_dead n c m h.blocks o.row q f),
  )
    where
      live_granted : (x s d : ℕ) → BlockAt x (used s d) 0 h.blocks → run m (deallocate_script n c (2 * x + d)) ≡ no 3 → ⊥
      live_granted x s d b e =
          let k = subst (Meets n c m (deallocate_script n c (2 * x + d))) (live_back h x s d b o.row.order) (deallocate_meets n c m h o (2 * x + d)) in
          let i = k.gives in let z : ◌≡◌ {A = ℕ} 0 1 = cc in omega arith

  -- T6: a live payload that is to be resized is refused with 1 alone
  pub reallocate_live_refused : (x s d p a i : ℕ) → BlockAt x (used s d) 0 h.blocks → Align a → run m (reallocate_script n c (2 * x + d) p a) ≡ no i → i ≡ 1
  reallocate_live_refused x s d p a i b al = meets_only n c m (reallocate_script n c (2 * x + d) p a) (resize c h (2 * x + d) p a) i
      (resize_only c h x s d p a (sound_ok n c m h o) al b) (reallocate_meets n c p a m h al o (2 * x + d))

  -- T6: so reallocate, too, is refused with 3 exactly when the payload is not live
  pub reallocate_not_live_exactly : (q p a : ℕ) → Align a
      → (run m (reallocate_script n c q p a) ≡ no 3 → NotLive h q) × (NotLive h q → run m (reallocate_script n c q p a) ≡ no 3)
  reallocate_not_live_exactly q p a al = (
    (λ e x s d b i. omega (arith, reallocate_live_refused x s d p a 3 b al (subst (λ (u : ℕ). run m (reallocate_script n c u p a) ≡ no 3) i e))),
    (λ f. reallocate_dead n c m h.blocks o.row q f p a),
  )

  -- T6: and with 1, of a live payload, exactly when there is no room in place, none downwards, and nothing to take
  pub reallocate_refused_exactly : (x s d p a : ℕ) (b : BlockAt x (used s d) 0 h.blocks) → Align a
      → (run m (reallocate_script n c (2 * x + d) p a) ≡ no 1 → Cramped h x s d p a b × (take c h p a ≡ refused no_list))
      × (Cramped h x s d p a b × (take c h p a ≡ refused no_list) → run m (reallocate_script n c (2 * x + d) p a) ≡ no 1)
  reallocate_refused_exactly x s d p a b al =
      let k = reallocate_meets n c p a m h al o (2 * x + d) in
      let e = cramped_exactly c h x s d p a (sound_ok n c m h o) al b in
      ((λ i. e.0 (meets_no n c m (reallocate_script n c (2 * x + d) p a) (resize c h (2 * x + d) p a) no_list k i)), (λ f. subst (Meets n c m (reallocate_script n c (2 * x + d) p a)) (e.1 f) k))

-- T10: some words D were overwritten by whatever. A call that would read none of them answers as it would have, and writes the
-- same: so the damage stays where it is. Of a call that does read such a word this says nothing.
pub damage_stays : (n c most : ℕ) (k : Call) (D : ℕ → ℕ → Type 0) (m d : Memory) → DiffersIn D m d
    → ((g y : ℕ) → Reads m (script_of n c most k) g y → D g y → ⊥) → Contained D m d (script_of n c most k)
damage_stays n c most k D m d = contained D m d (script_of n c most k)
