-- Resize: on a sound memory its script does what the definition says, in each of the four steps.
use Rattle.std.specs.Prelude.{ℕ, ◌+◌, ◌-◌, ◌*◌, ◌≤◌, ◌<◌, ◌≡◌, refl, List, [], ◌∷◌, ◌++◌}
use Rattle.std.proofs.Common.{arith, sym, ◌∙◌}
use Rattle.std.proofs.Math.Path.{ap, subst}
use Rattle.std.proofs.Math.ListN.{length}
use Rattle.std.proofs.Math.Logic.{⊎_elim}
use Rattle.choice.specs.Choice.{if_eq, if_le, eq_yes, eq_no, le_yes, le_no, same?, le?}
use Rattle.definition.specs.Blocks.{Block, used, total, ◌⟨⟩◌, room, past, Place}
use Rattle.definition.specs.Lists.{Lists, skip}
use Rattle.definition.specs.Calls.{Heap, Answer, refused, granted, leave, place, keeps, take, give_back, answering, back_after, elsewhere, down, resize_at, resize}
use Rattle.invariants.specs.Order.{order_split, stands_at}
use Rattle.invariants.proofs.Order.{payload_at}
use Rattle.invariants.proofs.Neighbours.{total_past}
use Rattle.invariants.specs.Placing.{Align}
use Rattle.invariants.proofs.NotLive.{not_live_resize}
use Rattle.script.specs.Memory.{Memory, Live, Write, apply}
use Rattle.script.proofs.Memory.{apply_append}
use Rattle.script.specs.Script.{Script, ok, run, over}
use Rattle.script.proofs.Script.{goes, halts, gives_bind, gives_done, over_run}
use Rattle.sound.specs.Sound.{Sound}
use Rattle.sound.specs.Checks.{Beside, see_owner, see_behind, see_before}
use Rattle.sound.specs.Plans.{Plan, room_of, both_leave, take_script, give_back_script, elsewhere_script, down_script, move_script, stretch_script, grow_script, resize_script}
use Rattle.sound.specs.Meets.{Meets}
use Rattle.sound.proofs.Constant.{back_reads}
use Rattle.sound.proofs.Seen.{not_owner}
use Rattle.sound.specs.SeenBeside.{Here, beside}
use Rattle.sound.proofs.SeenBeside.{room_seen, behind_seen, before_seen, owner_seen}
use Rattle.sound.proofs.TakeSound.{take_meets}
use Rattle.sound.proofs.ReturnSound.{give_back_meets}
use Rattle.sound.specs.ResizeInPlace.{in_place}
use Rattle.sound.proofs.ResizeInPlace.{stretch_grants}
use Rattle.sound.proofs.ResizeDown.{down_grants}

-- ---- step 4: a take, and then a return

module _ (n c q p a u : ℕ) (m : Memory) where
  back_part : (v : ℕ) (g : Heap) (t : Plan) → run m (take_script n c p a) ≡ ok t → t.answer ≡ v → (w : Answer) → Meets n c (apply m t.writes) (give_back_script n c q) w
      → Meets n c m (elsewhere_script n c q p a u) (answering v w)
  unfolding elsewhere_script answering
  back_part v g t e i (refused w) b =
      goes m (take_script n c p a) _ e ∙ halts m (over t.writes (give_back_script n c q)) _ (over_run m t.writes (give_back_script n c q) 24 (back_reads n c q) ∙ b)
  back_part v g t e i (granted z k) b = record {
    plan = record { answer = t.answer; writes = t.writes ++ b.plan.writes; moved = u; early = length t.writes };
    gives = goes m (take_script n c p a) _ e
        ∙ gives_bind m (over t.writes (give_back_script n c q)) _ (over_run m t.writes (give_back_script n c q) 24 (back_reads n c q) ∙ b.gives) (gives_done m _);
    answer = i;
    sound = subst (λ (d : Memory). Sound n c d k) (sym (apply_append m t.writes b.plan.writes)) b.sound;
  }

  take_part : (w : Answer) → Meets n c m (take_script n c p a) w → Meets n c m (elsewhere_script n c q p a u) (back_after w q)
  unfolding elsewhere_script back_after
  take_part (refused w) t = halts m (take_script n c p a) _ t
  take_part (granted v g) t = back_part v g t.plan t.gives t.answer (give_back g q) (give_back_meets n c (apply m t.plan.writes) g t.sound q)

  pub elsewhere_meets : (h : Heap) → Align a → Sound n c m h → Meets n c m (elsewhere_script n c q p a u) (elsewhere c h q p a)
  unfolding elsewhere
  elsewhere_meets h al o = take_part (take c h p a) (take_meets n c p a m h al o)

-- what two scripts that run alike meet
meets_as : (n c : ℕ) (m : Memory) (s t : Script Plan) (w : Answer) → run m s ≡ run m t → Meets n c m t w → Meets n c m s w
meets_as n c m s t (refused w) e h = e ∙ h
meets_as n c m s t (granted v g) e h = record { plan = h.plan; gives = e ∙ h.gives; answer = h.answer; sound = h.sound }

down_far : (n c q p a u : ℕ) (m : Memory) (z t : ℕ) (w : List Write) → t < keeps (place a z) p → run m (down_script n c q p a u z t w) ≡ run m (elsewhere_script n c q p a u)
unfolding down_script
down_far n c q p a u m z t w h = ap (run m) (le_no (keeps (place a z) p) t _ _ (omega arith))

stretch_far : (n c q p a : ℕ) (m : Memory) (d x s : ℕ) (b : Beside) → s + room_of b < keeps d p → run m (stretch_script n c q p a d x s b) ≡ run m (move_script n c q p a x s b)
unfolding stretch_script
stretch_far n c q p a m d x s b h = ap (run m) (le_no (keeps d p) (s + room_of b) _ _ (omega arith))

-- what the definition answers where the block does not keep its size
abbrev after_equal : ℕ → Lists → List Block → List Block → ℕ → ℕ → ℕ → ℕ → Answer
after_equal c f l r s d p a = if_le (keeps d p) (s + room r) (granted (2 * total l + d) (leave (skip r (total l + s) f) l (past r) (s + room r) (keeps d p) d))
    (down c (Here f l (used s d) r) (2 * total l + d) p a l s r)

-- ---- the steps in their order

module _ (n c p a : ℕ) (m : Memory) (f : Lists) (l r : List Block) (s d : ℕ) (al : Align a) (o : Sound n c m (Here f l (used s d) r)) where
  move_run : run m (move_script n c (2 * total l + d) p a (total l) s (beside m r (total l + s)))
      ≡ run m (if_eq (room l) 0 (elsewhere_script n c (2 * total l + d) p a (2 * (total l + s) - (2 * total l + d)))
      (down_script n c (2 * total l + d) p a (2 * (total l + s) - (2 * total l + d)) (total (past l)) (room l + (s + room r)) (both_leave (beside m r (total l + s)) (total (past l)) (beside m l (total (past l))))))
  unfolding move_script
  move_run =
      let q = 2 * total l + d in
      let u = 2 * (total l + s) - q in
      let b = beside m r (total l + s) in
      let g = beside m l (total (past l)) in
      let e : room_of g ≡ room l = room_seen m l (total (past l)) in
      let i : total l - room_of g ≡ total (past l) = omega (arith, total_past l) in
      goes m (see_before n c (total l)) _ (before_seen n c m f l r s d o)
      ∙ ap (λ (j : ℕ). run m (if_eq (room_of g) 0 (elsewhere_script n c q p a u) (down_script n c q p a u j (room_of g + (s + room_of b)) (both_leave b j g)))) i
      ∙ ap (λ (j : ℕ). run m (if_eq j 0 (elsewhere_script n c q p a u) (down_script n c q p a u (total (past l)) (j + (s + room_of b)) (both_leave b (total (past l)) g)))) e
      ∙ ap (λ (j : ℕ). run m (if_eq (room l) 0 (elsewhere_script n c q p a u) (down_script n c q p a u (total (past l)) (room l + (s + j)) (both_leave b (total (past l)) g)))) (room_seen m r (total l + s))

  -- step 3 or 4
  move_meets : Meets n c m (move_script n c (2 * total l + d) p a (total l) s (beside m r (total l + s))) (down c (Here f l (used s d) r) (2 * total l + d) p a l s r)
  unfolding down
  move_meets =
      let q = 2 * total l + d in
      let u = 2 * (total l + s) - q in
      let z = total (past l) in
      let t = room l + (s + room r) in
      let far = elsewhere_meets n c q p a u m (Here f l (used s d) r) al o in
      ⊎_elim
      (λ (e : room l ≡ 0). rw (eq_yes (room l) 0 _ _ e)
      (meets_as n c m _ (elsewhere_script n c q p a u) (elsewhere c (Here f l (used s d) r) q p a) (move_run ∙ ap (run m) (eq_yes (room l) 0 _ _ e)) far))
      (λ (e : room l ≡ 0 → ⊥). rw (eq_no (room l) 0 _ _ e) (⊎_elim
      (λ (h : keeps (place a z) p ≤ t). rw (le_yes (keeps (place a z) p) t _ _ h)
      (meets_as n c m _ (down_script n c q p a u z t (both_leave (beside m r (total l + s)) z (beside m l z))) (granted (2 * z + place a z) _)
      (move_run ∙ ap (run m) (eq_no (room l) 0 _ _ e)) (down_grants n c p a m f l r s d al o (omega (arith, e)) h u)))
      (λ (h : t < keeps (place a z) p). rw (le_no (keeps (place a z) p) t _ _ (omega arith))
      (meets_as n c m _ (elsewhere_script n c q p a u) (elsewhere c (Here f l (used s d) r) q p a) (move_run ∙ ap (run m) (eq_no (room l) 0 _ _ e) ∙ down_far n c q p a u m z t _ h) far))
      (le? (keeps (place a z) p) t)))
      (same? (room l) 0)

  -- all four
  pub grow_meets : Meets n c m (grow_script n c (2 * total l + d) p a d (total l) s) (resize_at c (Here f l (used s d) r) (2 * total l + d) p a l (used s d ∷ r))
  unfolding grow_script resize_at
  grow_meets = ⊎_elim
      (λ (e : keeps d p ≡ s). subst (Meets n c m (grow_script n c (2 * total l + d) p a d (total l) s)) (sym (eq_yes (keeps d p) s (granted (2 * total l + d) (Here f l (used s d) r)) (after_equal c f l r s d p a) e))
      (record { plan = in_place (2 * total l + d) []; gives = ap (run m) (eq_yes (keeps d p) s _ _ e) ∙ gives_done m _; answer = refl; sound = o }))
      (λ (e : keeps d p ≡ s → ⊥). subst (Meets n c m (grow_script n c (2 * total l + d) p a d (total l) s)) (sym (eq_no (keeps d p) s (granted (2 * total l + d) (Here f l (used s d) r)) (after_equal c f l r s d p a) e))
      (meets_as n c m _ (stretch_script n c (2 * total l + d) p a d (total l) s (beside m r (total l + s))) (after_equal c f l r s d p a)
      (ap (run m) (eq_no (keeps d p) s _ _ e) ∙ goes m (see_behind n c (total l + s)) _ (behind_seen n c m f l r s d o)) stretch_meets))
      (same? (keeps d p) s)
    where
      stretch_meets : Meets n c m (stretch_script n c (2 * total l + d) p a d (total l) s (beside m r (total l + s))) (after_equal c f l r s d p a)
      stretch_meets = ⊎_elim
          (λ (h : keeps d p ≤ s + room r). rw (le_yes (keeps d p) (s + room r) _ _ h) (stretch_grants n c p a m f l r s d al o h (2 * total l + d)))
          (λ (h : s + room r < keeps d p). rw (le_no (keeps d p) (s + room r) _ _ (omega arith))
          (meets_as n c m _ (move_script n c (2 * total l + d) p a (total l) s (beside m r (total l + s))) (down c (Here f l (used s d) r) (2 * total l + d) p a l s r)
          (stretch_far n c (2 * total l + d) p a m d (total l) s (beside m r (total l + s)) (omega (arith, room_seen m r (total l + s)))) move_meets))
          (le? (keeps d p) (s + room r))

-- ---- resize

-- the parts of the list of blocks given
resize_there : (n c p a : ℕ) (m : Memory) (f : Lists) (xs l r : List Block) (s d : ℕ) → Align a → Sound n c m (record { blocks = xs; lists = f }) → xs ≡ l ⟨⟩ used s d ∷ r
    → Meets n c m (resize_script n c (2 * total l + d) p a) (resize c (record { blocks = xs; lists = f }) (2 * total l + d) p a)
unfolding resize_script resize
resize_there n c p a m f xs l r s d al o e =
    let b : Sound n c m (Here f l (used s d) r) = subst (λ (u : List Block). Sound n c m (record { blocks = u; lists = f })) e o in
    let q = 2 * total l + d in
    let i = order_split l (used s d ∷ r) b.heap.order in
    let g : q - 2 * total l ≡ d = omega arith in
    subst (λ (u : List Block). Meets n c m (resize_script n c q p a) (resize c (record { blocks = u; lists = f }) q p a)) (sym e)
    (meets_as n c m (resize_script n c q p a) (grow_script n c q p a d (total l) s) (resize c (Here f l (used s d) r) q p a)
    (goes m (see_owner q) _ (owner_seen n c m f l r s d b) ∙ ap (λ (j : ℕ). run m (grow_script n c q p a j (total l) s)) g)
    (subst (λ (u : Place). Meets n c m (grow_script n c q p a d (total l) s) (resize_at c (Here f l (used s d) r) q p a u.before u.behind)) (sym (payload_at l r s d i.0 i.1.1.1.some))
    (grow_meets n c p a m f l r s d al b)))

pub resize_meets : (n c p a : ℕ) (m : Memory) (h : Heap) → Align a → Sound n c m h → (q : ℕ) → Meets n c m (resize_script n c q p a) (resize c h q p a)
unfolding resize_script
resize_meets n c p a m h al o q = ⊎_elim
    (λ (e : m Live q ≡ 1).
    let b = o.lively.real q e in
    let t = stands_at b.0 (used b.1 b.2) h.blocks b.3 in
    subst (λ (j : ℕ). Meets n c m (resize_script n c j p a) (resize c h j p a)) (sym (b.4 ∙ ap (λ (x : ℕ). 2 * x + b.2) t.place))
    (resize_there n c p a m h.lists h.blocks t.before t.behind b.1 b.2 al o t.whole))
    (λ (e : m Live q ≡ 1 → ⊥). subst (Meets n c m (resize_script n c q p a)) (sym (not_live_resize c h q p a (λ x s d b i. e (ap (m Live) i ∙ o.lively.set x s d b))))
    (halts m (see_owner q) _ (not_owner m q e)))
    (same? (m Live q) 1)
