-- What follows from specs/PayloadMoved.antt.
use Rattle.std.specs.Prelude.{ℕ, ◌+◌, ◌-◌, ◌*◌, ◌%◌, ◌≤◌, ◌≡◌, List, [], ◌∷◌, ◌++◌, length}
use Rattle.std.proofs.Common.{arith, ap, sym, ◌∙◌, subst, append_assoc, ⊎_elim}
use Rattle.choice.specs.Choice.{if_eq, eq_yes, eq_no, eq_case, same?}
use Rattle.class.specs.Class.{list_of}
use Rattle.definition.specs.Blocks.{Block, used, total, ◌⟨⟩◌, room, past}
use Rattle.definition.specs.Lists.{Lists, skip}
use Rattle.definition.specs.Calls.{Heap, place, keeps}
use Rattle.invariants.specs.Order.{out, BlockAt, at_here, stands_at}
use Rattle.invariants.proofs.Order.{at_whole, total_zip}
use Rattle.invariants.proofs.Neighbours.{total_past}
use Rattle.invariants.specs.Placing.{Align}
use Rattle.invariants.proofs.Placing.{align_pos, place_some, keeps_holds}
use Rattle.script.specs.Memory.{Memory, Next, Live, none, root, Write, ◌at◌≔◌, latest, apply}
use Rattle.script.specs.Script.{ok, run, Gives}
use Rattle.sound.specs.Sound.{Sound}
use Rattle.sound.specs.Plans.{Plan, both_leave, pad_writes, whole_writes, split_writes, elsewhere_script, resize_script}
use Rattle.sound.specs.Leave.{rest_writes, leave_writes}
use Rattle.sound.specs.SeenBeside.{Here, beside}
use Rattle.sound.proofs.Skips.{skips_both, not_in_both}
use Rattle.sound.specs.PayloadWrites.{Spares, Unlisted, Off}
use Rattle.sound.proofs.PayloadWrites.{spares_append, spares_from, push_off, after_off}
use Rattle.sound.proofs.PayloadTake.{used_small, take_spares}
use Rattle.sound.proofs.PayloadReturn.{both_off, back_spares}
use Rattle.sound.proofs.ResizeSteps.{between, both, Step, stays, stretches, sinks, moves, step}
use Rattle.sound.specs.Links.{push_writes}
use Rattle.invariants.proofs.Moves.{used_unlisted}
use Rattle.sound.specs.PayloadMoved.{Carried}

-- ---- step 3

-- what is left is written after the free parts have left their lists by w
abbrev left_writes : Memory → List Write → ℕ → ℕ → ℕ → List Write
left_writes m w x t k = if_eq k t (whole_writes x t) (push_writes (list_of (t - k)) (x + k) (latest w Next (root (list_of (t - k))) (m Next (root (list_of (t - k))))) ++ split_writes x t k)

left_parts : (m : Memory) (w : List Write) (x t k : ℕ) → leave_writes m w x t k ≡ w ++ left_writes m w x t k
left_parts m w x t k = ⊎_elim
    (λ (e : k ≡ t). eq_yes k t (w ++ whole_writes x t) _ e ∙ ap (λ (v : List Write). w ++ v) (sym (eq_yes k t (whole_writes x t) _ e)))
    (λ (e : k ≡ t → ⊥). eq_no k t (w ++ whole_writes x t) (rest_writes m w x t k) e ∙ append_assoc w _ (split_writes x t k) ∙ ap (λ (v : List Write). w ++ v) (sym (eq_no k t (whole_writes x t) _ e)))
    (same? k t)

-- none of that is in the new payload
left_off : (m : Memory) (w : List Write) (x t k d : ℕ) → x + k ≤ none → 1 ≤ d → k ≤ t → Off x k (latest w Next (root (list_of (t - k))) (m Next (root (list_of (t - k))))) → Spares x k d (left_writes m w x t k)
left_off m w x t k d small p le h =
    let j = list_of (t - k) in
    let g = latest w Next (root j) (m Next (root j)) in
    eq_case (Spares x k d) k t _ _
    (λ _. ((λ _ i. omega arith), ((λ _ i. omega arith), tt)))
    (λ _. spares_append x k d (push_writes j (x + k) g) (split_writes x t k)
    (spares_from x k d p (push_writes j (x + k) g) (push_off x k j (x + k) g small (λ i v. omega arith) h))
    ((λ _ i. omega arith), ((λ _ i. omega arith), ((λ _ i. omega arith), ((λ _ i. omega arith), tt)))))

-- nor the word before it
pad_before : (x k d : ℕ) → 1 ≤ d → Spares x k d (pad_writes x d)
pad_before x k d p = eq_case (Spares x k d) (d % 2) 0 _ _ (λ e. ((λ _ i. omega arith), tt)) (λ _. tt)

module _ (n c p a : ℕ) (m : Memory) (f : Lists) (l r : List Block) (s d : ℕ) (al : Align a) (o : Sound n c m (Here f l (used s d) r)) where
  here : BlockAt (total l) (used s d) 0 (l ⟨⟩ used s d ∷ r)
  here = at_here l r (used s d)

  -- down into the free block before: the words are carried when the free parts have left their lists
  sink_carried : (t : Plan) → 2 * s - d ≤ p → keeps (place a (total (past l))) p ≤ room l + (s + room r) → t.answer ≡ 2 * total (past l) + place a (total (past l)) → t.moved ≡ 2 * s - d
      → t.early ≡ length (both_leave (beside m r (total l + s)) (total (past l)) (beside m l (total (past l))))
      → t.writes ≡ leave_writes m (both_leave (beside m r (total l + s)) (total (past l)) (beside m l (total (past l)))) (total (past l)) (room l + (s + room r)) (keeps (place a (total (past l))) p)
      ++ (pad_writes (total (past l)) (place a (total (past l))) ++ ((Live at 2 * total l + d ≔ 0) ∷ (Live at 2 * total (past l) + place a (total (past l)) ≔ 1) ∷ []))
      → Carried (total l) s d p t
  sink_carried t enough fits answer moved early w =
      let z = total (past l) in
      let e = place a z in
      let k = keeps e p in
      let i = room l + (s + room r) in
      let out_both = both_leave (beside m r (total l + s)) z (beside m l z) in
      let g = skip l z (skip r (total l + s) f) in
      let v : List Write = (Live at 2 * total l + d ≔ 0) ∷ (Live at 2 * z + e ≔ 1) ∷ [] in
      let h = Here f l (used s d) r in
      let pe = place_some a z (align_pos a al) in
      let small : z + k ≤ none = omega (arith, total_past l, total_past r, total_zip l (used s d ∷ r), o.whole, o.small) in
      let un : Unlisted g z k = (λ u b j. not_in_both n c m f l r s d o u b (omega arith)) in
      record {
        first = out_both;
        second = left_writes m out_both z i k ++ (pad_writes z e ++ v);
        parts = w ∙ ap (λ (u : List Write). u ++ (pad_writes z e ++ v)) (left_parts m out_both z i k) ∙ append_assoc out_both (left_writes m out_both z i k) (pad_writes z e ++ v);
        early = early;
        start = z;
        grains = k;
        place = e;
        answer = answer;
        long = keeps_holds e p;
        moved = moved;
        enough = enough;
        old_stays = spares_from (total l) s d (at_whole (total l) (used s d) 0 out (l ⟨⟩ used s d ∷ r) o.heap.order here).1.some out_both
            (both_off n c m f l r s d o (total l) s (used_small n c m h o (total l) s d here) (used_unlisted c (l ⟨⟩ used s d ∷ r) f (total l) s d o.heap here));
        new_stays = spares_append z k e (left_writes m out_both z i k) (pad_writes z e ++ v)
            (left_off m out_both z i k e small pe fits (after_off m f g out_both (skips_both n c m f l r s d o) z k small un (list_of (i - k))))
            (spares_append z k e (pad_writes z e) v (pad_before z k e pe) ((λ b j. omega arith), ((λ b j. omega arith), tt)));
      }

-- ---- step 4

module _ (n c p a : ℕ) (m : Memory) (h : Heap) (al : Align a) (o : Sound n c m h) where
  -- elsewhere: the words are carried between the take and the return
  far_carried : (q u : ℕ) (t : Plan) (y s d : ℕ) → u ≡ 2 * s - d → 2 * s - d ≤ p → Gives m (elsewhere_script n c q p a u) t → BlockAt y (used s d) 0 h.blocks → (t.answer ≡ q → ⊥) → Carried y s d p t
  far_carried q u t y s d eu enough g b ne =
      let k = both n c p a m q u t g in
      let i = between n c p a m h al o k.first k.takes in
      let v = i.grants in
      record {
        first = k.first.writes;
        second = k.second.writes;
        parts = k.writes;
        early = k.early;
        start = v.x;
        grains = v.s;
        place = v.d;
        answer = k.answer ∙ v.payload;
        long = v.long;
        moved = k.moved ∙ eu;
        enough = enough;
        old_stays = take_spares n c p a m h al o k.first y s d k.takes b;
        new_stays = back_spares n c (apply m k.first.writes) i.heap q k.second v.x v.s v.d i.sound k.returns v.here (λ e. ne (k.answer ∙ v.payload ∙ e));
      }

-- ---- resize

-- one of the steps
step_carried : (n c p a : ℕ) (m : Memory) (f : Lists) (l r : List Block) (s d : ℕ) (al : Align a) (o : Sound n c m (Here f l (used s d) r)) (t : Plan)
    → Step n c p a m f l r s d al o t → (t.answer ≡ 2 * total l + d → ⊥) → Carried (total l) s d p t
step_carried n c p a m f l r s d al o t (stays e w) ne = absurd (ne e)
step_carried n c p a m f l r s d al o t (stretches h e w) ne = absurd (ne e)
step_carried n c p a m f l r s d al o t (sinks some big fits answer moved early w) ne = sink_carried n c p a m f l r s d al o t (omega arith) fits answer moved early w
step_carried n c p a m f l r s d al o t (moves u eu big g) ne = far_carried n c p a m (Here f l (used s d) r) al o (2 * total l + d) u t (total l) s d eu (omega arith) g (at_here l r (used s d)) ne

-- whenever the payload gets another place
pub resize_carries : (n c q p a : ℕ) (m : Memory) (h : Heap) (t : Plan) (y s d : ℕ) → Align a → Sound n c m h → run m (resize_script n c q p a) ≡ ok t
    → BlockAt y (used s d) 0 h.blocks → 2 * y + d ≡ q → (t.answer ≡ q → ⊥) → Carried y s d p t
resize_carries n c q p a m h t y s d al o g b e ne =
    let w = stands_at y (used s d) h.blocks b in
    let k : q ≡ 2 * total w.before + d = omega (arith, w.place) in
    let v : Sound n c m (Here h.lists w.before (used s d) w.behind) = subst (λ (A : List Block). Sound n c m (record { blocks = A; lists = h.lists })) w.whole o in
    subst (λ (x : ℕ). Carried x s d p t) (sym w.place)
    (step_carried n c p a m h.lists w.before w.behind s d al v t
    (step n c p a m h.lists w.before w.behind s d al v t (subst (λ (u : ℕ). Gives m (resize_script n c u p a) t) k g)) (λ i. ne (i ∙ sym k)))
