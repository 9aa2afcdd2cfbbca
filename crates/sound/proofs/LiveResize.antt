-- What follows from specs/LiveResize.antt.
use Rattle.std.specs.Prelude.{ℕ, ◌+◌, ◌*◌, ◌≤◌, ◌<◌, ◌≡◌, List, []}
use Rattle.std.proofs.Common.{arith, ap, sym, ◌∙◌}
use Rattle.std.proofs.Math.Path.{refl, subst}
use Rattle.choice.specs.Choice.{eq_case, le_case}
use Rattle.class.specs.Class.{start_of}
use Rattle.definition.specs.Blocks.{Block, used, total, room, past}
use Rattle.definition.specs.Lists.{Found, nothing, found}
use Rattle.definition.specs.Calls.{Heap, Answer, refused, granted, wanted, place, keeps, take_at, take, answering, back_after, elsewhere, down, resize_at, resize}
use Rattle.invariants.specs.Order.{BlockAt}
use Rattle.invariants.specs.Moves.{Ok}
use Rattle.invariants.specs.Placing.{Align}
use Rattle.invariants.specs.Promises.{sought, refused_exactly}
use Rattle.invariants.proofs.Promises.{take_granted}
use Rattle.invariants.specs.NotLive.{NotLive}
use Rattle.invariants.proofs.NotLive.{not_live_resize}
use Rattle.invariants.proofs.Live.{before, behind, live_back, live_resize}
use Rattle.invariants.specs.Cramped.{Cramped}
use Rattle.invariants.proofs.Cramped.{cramped_exactly}
use Rattle.script.specs.Memory.{Memory}
use Rattle.script.specs.Script.{Script, no, run}
use Rattle.sound.specs.Sound.{Sound}
use Rattle.sound.specs.Plans.{Plan, resize_script}
use Rattle.sound.specs.Meets.{number, Meets}
use Rattle.sound.proofs.Meets.{refused_1}
use Rattle.sound.proofs.ResizeSound.{resize_meets}
use Rattle.sound.specs.LiveResize.{OnlyNoList}

-- a granted one is
granted_only : (v : ℕ) (g : Heap) → OnlyNoList (granted v g)
granted_only v g u e = let z : ◌≡◌ {A = ℕ} 0 1 = cc in absurd (omega arith)

-- a take is
take_only : (h : Heap) (p a : ℕ) (w : Found) → OnlyNoList (take_at h p a w)
unfolding take_at
take_only h p a nothing v e = cc
take_only h p a (found k x) v e = granted_only _ _ v e

module _ (c : ℕ) (h : Heap) (x s d p a : ℕ) (o : Ok c h) (al : Align a) (b : BlockAt x (used s d) 0 h.blocks) where
  -- step 4: what is taken is not the block, which is live still
  elsewhere_only : OnlyNoList (elsewhere c h (2 * x + d) p a)
  unfolding elsewhere back_after answering take
  elsewhere_only = go (take c h p a) refl
    where
      go : (w : Answer) → take c h p a ≡ w → OnlyNoList (back_after w (2 * x + d))
      go (refused u) e = λ v i. take_only h p a (sought c h p a) v (e ∙ i)
      go (granted z g) e =
          let t = take_granted c h p a z g o al e in
          subst (λ (w : Answer). OnlyNoList (answering z w)) (sym (live_back g x s d (t.kept x (used s d) tt b) t.ok.order)) (granted_only z _)

  -- step 3, or else step 4
  down_only : (l r : List Block) → OnlyNoList (down c h (2 * x + d) p a l s r)
  unfolding down
  down_only l r = eq_case OnlyNoList (room l) 0 _ _ (λ _. elsewhere_only)
      (λ _. le_case OnlyNoList (keeps (place a (total (past l))) p) (room l + (s + room r)) _ _ (λ _. granted_only _ _) (λ _. elsewhere_only))

  -- all four steps
  pub resize_only : OnlyNoList (resize c h (2 * x + d) p a)
  unfolding resize_at
  resize_only = subst OnlyNoList (sym (live_resize h x s d b o.order c p a))
      (eq_case OnlyNoList (keeps d p) s _ _ (λ _. granted_only _ _)
      (λ _. le_case OnlyNoList (keeps d p) (s + room (behind h x s d b)) _ _ (λ _. granted_only _ _) (λ _. down_only (before h x s d b) (behind h x s d b))))

-- ---- in memory

-- a script that meets such an answer is refused with 1, if at all
meets_only : (n c : ℕ) (m : Memory) (s : Script Plan) (w : Answer) (i : ℕ) → OnlyNoList w → Meets n c m s w → run m s ≡ no i → i ≡ 1
meets_only n c m s (refused v) i f k e = let j : number v ≡ i = cc in sym j ∙ ap number (f v refl)
meets_only n c m s (granted v g) i f k e = let j = k.gives in let z : ◌≡◌ {A = ℕ} 0 1 = cc in absurd (omega arith)

module _ (n c q p a : ℕ) (m : Memory) (h : Heap) (al : Align a) (o : Sound n c m h) where
  -- the resize of a live payload
  pub live_resize_refused : (x s d i : ℕ) → BlockAt x (used s d) 0 h.blocks → q ≡ 2 * x + d → run m (resize_script n c q p a) ≡ no i → i ≡ 1
  live_resize_refused x s d i b e = meets_only n c m (resize_script n c q p a) (resize c h q p a) i
      (subst (λ (u : ℕ). OnlyNoList (resize c h u p a)) (sym e) (resize_only c h x s d p a o.heap al b)) (resize_meets n c p a m h al o q)

  -- with 3 it is refused exactly when the payload is not live
  pub resize_refused_exactly : (run m (resize_script n c q p a) ≡ no 3 → NotLive h q) × (NotLive h q → run m (resize_script n c q p a) ≡ no 3)
  resize_refused_exactly = (
    (λ k x s d b e. omega (arith, live_resize_refused x s d 3 b e k)),
    (λ f. subst (Meets n c m (resize_script n c q p a)) (not_live_resize c h q p a f) (resize_meets n c p a m h al o q)),
  )

  -- and with 1, of a live payload, exactly when its block has no room, neither in place nor downwards, and every list from
  -- the search start on is empty
  pub live_resize_refused_exactly : (x s d : ℕ) (b : BlockAt x (used s d) 0 h.blocks) → q ≡ 2 * x + d
      → (run m (resize_script n c q p a) ≡ no 1 → Cramped h x s d p a b × ((j : ℕ) → start_of (wanted p a) ≤ j → j < 16 * c → h.lists j ≡ []))
      × (Cramped h x s d p a b × ((j : ℕ) → start_of (wanted p a) ≤ j → j < 16 * c → h.lists j ≡ []) → run m (resize_script n c q p a) ≡ no 1)
  live_resize_refused_exactly x s d b e =
      let k : Meets n c m (resize_script n c q p a) (resize c h (2 * x + d) p a) = subst (λ (u : ℕ). Meets n c m (resize_script n c q p a) (resize c h u p a)) e (resize_meets n c p a m h al o q) in
      let i = cramped_exactly c h x s d p a o.heap al b in
      let f = refused_exactly c h p a in (
        (λ r. let t = i.0 (refused_1 n c m (resize_script n c q p a) (resize c h (2 * x + d) p a) k r) in (t.0, f.0 t.1)),
        (λ t. subst (Meets n c m (resize_script n c q p a)) (i.1 (t.0, f.1 t.1)) k),
      )
