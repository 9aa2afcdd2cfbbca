-- What follows from specs/Calls.antt.
use Rattle.std.specs.Prelude.{ℕ, ◌+◌, ◌*◌, ◌≤◌, ◌<◌, ◌≡◌, List, []}
use Rattle.std.proofs.Common.{arith, sym, subst}
use Rattle.class.specs.Class.{start_of}
use Rattle.definition.specs.Blocks.{Block, used}
use Rattle.definition.specs.Calls.{Heap, no_list, not_live, no_region, Answer, refused, granted, wanted, join, take}
use Rattle.invariants.specs.Order.{BlockAt, stands_at}
use Rattle.invariants.specs.Placing.{Align}
use Rattle.invariants.specs.Promises.{refused_exactly}
use Rattle.invariants.specs.NotLive.{NotLive}
use Rattle.invariants.proofs.NotLive.{not_live_back}
use Rattle.script.specs.Memory.{Memory}
use Rattle.script.specs.Script.{Script, no, run}
use Rattle.script.specs.Locality.{Reads, DiffersIn, Contained}
use Rattle.script.proofs.Locality.{contained}
use Rattle.sound.specs.Sound.{Sound}
use Rattle.sound.specs.Plans.{Plan, take_script, give_back_script}
use Rattle.sound.specs.Meets.{Grants, Meets}
use Rattle.sound.proofs.Meets.{refused_1}
use Rattle.sound.specs.SeenBeside.{Here}
use Rattle.sound.proofs.TakeSound.{take_meets}
use Rattle.sound.proofs.ReturnSound.{give_back_grants, give_back_meets}
use Rattle.sound.proofs.ResizeSound.{resize_meets}
use Rattle.sound.proofs.RegionSound.{region_meets, append_meets}
use Rattle.sound.specs.Calls.{Call, Take, Return, Resize, Give, Append, script_of, answer_of, Fair}

-- a script that does what some answer says is not refused with 5
meets_never_5 : (n c : ℕ) (m : Memory) (s : Script Plan) (w : Answer) → Meets n c m s w → run m s ≡ no 5 → ⊥
meets_never_5 n c m s (refused no_list) k e = let z : ◌≡◌ {A = ℕ} 1 5 = cc in omega arith
meets_never_5 n c m s (refused not_live) k e = let z : ◌≡◌ {A = ℕ} 3 5 = cc in omega arith
meets_never_5 n c m s (refused no_region) k e = let z : ◌≡◌ {A = ℕ} 4 5 = cc in omega arith
meets_never_5 n c m s (granted v g) k e = let i = k.gives in let z : ◌≡◌ {A = ℕ} 0 1 = cc in omega arith

module _ (n c most : ℕ) (m : Memory) (h : Heap) (o : Sound n c m h) (big : 1 ≤ c) (k : Call) (fair : Fair m most k) where
  -- T4: each call does what the definition says
  pub call_meets : Meets n c m (script_of n c most k) (answer_of c k h)
  call_meets = go k fair
    where
      go : (k : Call) → Fair m most k → Meets n c m (script_of n c most k) (answer_of c k h)
      go (Take p a) f = take_meets n c p a m h f o
      go (Return q) f = give_back_meets n c m h o q
      go (Resize q p a) f = resize_meets n c p a m h f o q
      go (Give g len) f = region_meets most n c g len m h o big f
      go (Append g len) f = append_meets most n c g len m h o big f

  -- T6: none finds damage where none is
  pub never_5 : run m (script_of n c most k) ≡ no 5 → ⊥
  never_5 = meets_never_5 n c m (script_of n c most k) (answer_of c k h) call_meets

-- ---- T6: when a call is refused

-- what is granted is not refused
granted_not_refused : {n c : ℕ} {m : Memory} {s : Script Plan} {v i : ℕ} {g : Heap} → Grants n c m s v g → run m s ≡ no i → ⊥
granted_not_refused k e = let i = k.gives in let z : ◌≡◌ {A = ℕ} 0 1 = cc in omega arith

module _ (n c : ℕ) (m : Memory) (h : Heap) (o : Sound n c m h) where
  -- a take, with 1, exactly when every list from its search start on is empty
  pub take_refused_exactly : (p a : ℕ) → Align a
      → (run m (take_script n c p a) ≡ no 1 → (j : ℕ) → start_of (wanted p a) ≤ j → j < 16 * c → h.lists j ≡ [])
      × (((j : ℕ) → start_of (wanted p a) ≤ j → j < 16 * c → h.lists j ≡ []) → run m (take_script n c p a) ≡ no 1)
  take_refused_exactly p a al =
      let k = take_meets n c p a m h al o in
      let e = refused_exactly c h p a in
      ((λ i. e.0 (refused_1 n c m (take_script n c p a) (take c h p a) k i)), (λ f. subst (Meets n c m (take_script n c p a)) (e.1 f) k))

  -- the return of a live payload is granted
  live_granted : (x s d : ℕ) → BlockAt x (used s d) 0 h.blocks → (g : Heap) × Grants n c m (give_back_script n c (2 * x + d)) 0 g
  live_granted x s d b =
      let p = stands_at x (used s d) h.blocks b in
      let i : Sound n c m (Here h.lists p.before (used s d) p.behind) = subst (λ (A : List Block). Sound n c m (record { blocks = A; lists = h.lists })) p.whole o in
      let g = join h.lists p.before s p.behind in
      (g, subst (λ (u : ℕ). Grants n c m (give_back_script n c (2 * u + d)) 0 g) (sym p.place) (give_back_grants n c m h.lists p.before p.behind s d i))

  -- so a live payload is never refused
  pub live_never_refused : (x s d i : ℕ) → BlockAt x (used s d) 0 h.blocks → run m (give_back_script n c (2 * x + d)) ≡ no i → ⊥
  live_never_refused x s d i b = granted_not_refused (live_granted x s d b).1

  -- and one that is not live always is, with 3
  pub back_refused_exactly : (q : ℕ) → (run m (give_back_script n c q) ≡ no 3 → NotLive h q) × (NotLive h q → run m (give_back_script n c q) ≡ no 3)
  back_refused_exactly q = (
    (λ e x s d b i. live_never_refused x s d 3 b (subst (λ (u : ℕ). run m (give_back_script n c u) ≡ no 3) i e)),
    (λ f. subst (Meets n c m (give_back_script n c q)) (not_live_back h q f) (give_back_meets n c m h o q)),
  )

-- ---- T10: damage stays where it is

-- For a crane engineer: some words of the arena or of the tables, D, were overwritten, by whatever. A call whose checks
-- on the undamaged memory would read none of them answers just as it would have, and writes the same: the damaged memory
-- afterwards differs from the undamaged one in D at most. So what one module broke is not carried into what another
-- holds. Of a call that does read such a word this says nothing.
pub damage_stays : (n c most : ℕ) (k : Call) (D : ℕ → ℕ → Type 0) (m d : Memory) → DiffersIn D m d
    → ((g y : ℕ) → Reads m (script_of n c most k) g y → D g y → ⊥) → Contained D m d (script_of n c most k)
damage_stays n c most k D m d = contained D m d (script_of n c most k)
