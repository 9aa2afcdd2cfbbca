-- Resize downwards: the block swallows the free blocks on both sides, and its payload moves to where the block before began,
-- with its padding counted anew.
use Rattle.std.specs.Prelude.{ℕ, ◌+◌, ◌-◌, ◌*◌, ◌≤◌, ◌≡◌, refl, List, [], ◌∷◌, ◌++◌}
use Rattle.std.proofs.Common.{arith, ◌∙◌, ⊎_elim}
use Rattle.std.proofs.Math.Path.{ap, subst}
use Rattle.std.proofs.Math.ListN.{length}
use Rattle.choice.specs.Choice.{le_yes, eq_case}
use Rattle.definition.specs.Blocks.{Block, free, used, last, gap, total, ◌⟨⟩◌, room, past}
use Rattle.definition.specs.Lists.{Lists, skip}
use Rattle.definition.specs.Calls.{Heap, leave, place, keeps}
use Rattle.invariants.specs.Order.{order_split, BlockAt, at_here, Apart, same, before, behind}
use Rattle.invariants.proofs.Order.{total_zip, apart}
use Rattle.invariants.specs.Moves.{Ok}
use Rattle.invariants.proofs.Neighbours.{total_past, order_l_past, order_past, swallow, leave_ok}
use Rattle.invariants.specs.Placing.{Align}
use Rattle.invariants.proofs.Placing.{align_pos, place_some, place_inside, keeps_some}
use Rattle.invariants.proofs.Kept.{kept_down, kept_down_back, kept_down_split, kept_down_split_back}
use Rattle.invariants.proofs.Promises.{leave_here, leave_only}
use Rattle.script.specs.Memory.{Memory, Size, Before, Live, apply, ◌at◌≔◌}
use Rattle.script.specs.Script.{run}
use Rattle.script.proofs.Script.{gives_bind, gives_done}
use Rattle.sound.specs.Sound.{Sound}
use Rattle.sound.specs.Plans.{both_leave, pad_writes, leave_script, down_script}
use Rattle.sound.specs.Meets.{Grants}
use Rattle.sound.proofs.Core.{core_both}
use Rattle.sound.specs.Leave.{leave_writes}
use Rattle.sound.proofs.Leave.{leave_gives, leave_memory}
use Rattle.sound.specs.Swaps.{Swaps}
use Rattle.sound.proofs.Swaps.{lively_move}
use Rattle.sound.proofs.Finish.{finish_memory}
use Rattle.sound.proofs.Settle.{settle, leave_total}
use Rattle.sound.proofs.Seen.{head_seen}
use Rattle.sound.specs.SeenBeside.{Here, beside}
use Rattle.sound.proofs.Skips.{skips_both, fewer_both, not_in_both}
use Rattle.invariants.proofs.Gaps.{gap_used}
use Rattle.sound.proofs.ResizeInPlace.{whole, size_all, rest_list}

module _ (n c p a : ℕ) (m : Memory) (f : Lists) (l r : List Block) (s d : ℕ) (al : Align a) (o : Sound n c m (Here f l (used s d) r)) where
  -- ---- step 3: t grains from the block before on

  module _ (some : 1 ≤ room l) (le : keeps (place a (total (past l))) p ≤ room l + (s + room r)) where
    down_some : 1 ≤ keeps (place a (total (past l))) p
    down_some = keeps_some (place a (total (past l))) p (place_some a (total (past l)) (align_pos a al))

    down_ok : Ok c (leave (skip l (total (past l)) (skip r (total l + s) f)) (past l) (past r) (room l + (s + room r)) (keeps (place a (total (past l))) p) (place a (total (past l))))
    down_ok = leave_ok c (skip l (total (past l)) (skip r (total l + s) f)) (past l) (past r) (room l + (s + room r)) 1 (keeps (place a (total (past l))) p) (place a (total (past l))) down_some le
        (place_inside a (total (past l)) p al) (order_past r (order_split l (used s d ∷ r) o.heap.order).1.2) (swallow c f l r s d o.heap)

    down_here : BlockAt (total (past l)) (used (keeps (place a (total (past l))) p) (place a (total (past l)))) 0
        (leave (skip l (total (past l)) (skip r (total l + s) f)) (past l) (past r) (room l + (s + room r)) (keeps (place a (total (past l))) p) (place a (total (past l)))).blocks
    down_here = leave_here (skip l (total (past l)) (skip r (total l + s) f)) (past l) (past r) (room l + (s + room r)) (keeps (place a (total (past l))) p) (place a (total (past l))) le

    down_swaps : Swaps (l ⟨⟩ used s d ∷ r) (leave (skip l (total (past l)) (skip r (total l + s) f)) (past l) (past r) (room l + (s + room r)) (keeps (place a (total (past l))) p) (place a (total (past l)))).blocks
        (total l) (used s d) (total (past l)) (used (keeps (place a (total (past l))) p) (place a (total (past l))))
    unfolding leave
    down_swaps =
        let e = place a (total (past l)) in
        let k = keeps e p in
        eq_case (λ (g : Heap). Swaps (l ⟨⟩ used s d ∷ r) g.blocks (total l) (used s d) (total (past l)) (used k e)) k (room l + (s + room r)) _ _
        (λ q. subst (λ (j : ℕ). Swaps (l ⟨⟩ used s d ∷ r) (past l ⟨⟩ used j e ∷ past r) (total l) (used s d) (total (past l)) (used k e)) q
        (record {
          forth = λ y b v i. kept_down_back y b v l r s d k e q i;
          back = λ y b v i. kept_down y b v l r s d k e q i;
        }))
        (λ ne. record {
          forth = λ y b v i. kept_down_split_back y b v l r s d k e (room l + (s + room r) - k) (omega arith) i;
          back = λ y b v i. kept_down_split y b v l r s d k e (room l + (s + room r) - k) (omega arith) i;
        })

    -- the old block is gone
    old_gone : BlockAt (total l) (used s d) 0 (leave (skip l (total (past l)) (skip r (total l + s) f)) (past l) (past r) (room l + (s + room r)) (keeps (place a (total (past l))) p) (place a (total (past l)))).blocks → ⊥
    old_gone b = ⊎_elim
        (λ (g : (total l ≡ total (past l)) × (used (keeps (place a (total (past l))) p) (place a (total (past l))) ≡ used s d)). omega (arith, g.0, total_past l))
        (λ (g : BlockAt (total l) (used s d) 0 (past l ⟨⟩ free (room l + (s + room r)) ∷ past r)).
        go (apart (total (past l)) (total l) 0 (free (room l + (s + room r))) (used s d) (past l ⟨⟩ free (room l + (s + room r)) ∷ past r) (at_here (past l) (past r) (free (room l + (s + room r)))) g))
        (leave_only (skip l (total (past l)) (skip r (total l + s) f)) (past l) (past r) (room l + (s + room r)) (keeps (place a (total (past l))) p) (place a (total (past l))) le (total l) (used s d) tt b)
      where
        go : Apart (total (past l)) (free (room l + (s + room r))) (total l) (used s d) → ⊥
        go (same e v) = omega (arith, total_past l)
        go (before e) = omega (arith, total_past l, (whole n c p a m f l r s d al o).0)
        go (behind e) = omega (arith, total_past l)

    -- the new block was none
    new_none : (k e : ℕ) → 1 ≤ k → BlockAt (total (past l)) (used k e) 0 (l ⟨⟩ used s d ∷ r) → ⊥
    new_none k e i = go l some
      where
        apart_free : (t : ℕ) (l : List Block) → 1 ≤ t → Apart (total l) (free t) (total l) (used k e) → ⊥
        apart_free t l j (same q v) = let z : ◌≡◌ {A = ℕ} 0 1 = cc in omega arith
        apart_free t l j (before q) = omega arith
        apart_free t l j (behind q) = omega arith

        go : (l : List Block) → 1 ≤ room l → BlockAt (total (past l)) (used k e) 0 (l ⟨⟩ used s d ∷ r) → ⊥
        go [] q b = omega arith
        go (free t ∷ l) q b = apart_free t l q (apart (total l) (total l) 0 (free t) (used k e) (l ⟨⟩ free t ∷ used s d ∷ r) (at_here l (used s d ∷ r) (free t)) b)
        go (used t j ∷ l) q b = omega arith
        go (last ∷ l) q b = omega arith
        go (gap ∷ l) q b = omega arith

    down_sound : Sound n c
        (apply m (leave_writes m (both_leave (beside m r (total l + s)) (total (past l)) (beside m l (total (past l)))) (total (past l)) (room l + (s + room r)) (keeps (place a (total (past l))) p)
        ++ (pad_writes (total (past l)) (place a (total (past l))) ++ ((Live at 2 * total l + d ≔ 0) ∷ (Live at 2 * total (past l) + place a (total (past l)) ≔ 1) ∷ []))))
        (leave (skip l (total (past l)) (skip r (total l + s) f)) (past l) (past r) (room l + (s + room r)) (keeps (place a (total (past l))) p) (place a (total (past l))))
    down_sound =
        let z = total (past l) in
        let e = place a z in
        let k = keeps e p in
        let t = room l + (s + room r) in
        let g = skip l z (skip r (total l + s) f) in
        let h = leave g (past l) (past r) t k e in
        let w = both_leave (beside m r (total l + s)) z (beside m l z) in
        let v = (Live at 2 * total l + d ≔ 0) ∷ (Live at 2 * z + e ≔ 1) ∷ [] in
        let i = order_split l (used s d ∷ r) o.heap.order in
        let lv = leave_memory m f g w (fewer_both n c m f l r s d o) (skips_both n c m f l r s d o) (past l) (past r) t (core_both (m Size) (m Before) l r s d o.row)
        (order_l_past l i.0) (order_past r i.1.2) (omega (arith, (whole n c p a m f l r s d al o).0)) k e down_some le (omega (arith, size_all n c p a m f l r s d al o, total_past l, total_past r, o.small))
        (λ y p q. not_in_both n c m f l r s d o y (omega arith) q) in
        let fin = finish_memory c m f (leave_writes m w z t k) h z k e v lv down_ok down_here (refl, (refl, tt)) in
        settle n c m _ (Here f l (used s d) r) h o down_ok (total l) (used s d) z k e down_swaps gap_used down_here (new_none k e down_some)
        (leave_total g (past l) (past r) t k e le ∙ omega (arith, total_zip l (used s d ∷ r), total_past l, total_past r)) v fin
        (lively_move m _ (l ⟨⟩ used s d ∷ r) h.blocks (total l) s d z k e o.lively o.heap.order down_swaps (at_here l r (used s d)) old_gone down_here fin.live)

    pub down_grants : (u : ℕ) → Grants n c m
        (down_script n c (2 * total l + d) p a u (total (past l)) (room l + (s + room r)) (both_leave (beside m r (total l + s)) (total (past l)) (beside m l (total (past l)))))
        (2 * total (past l) + place a (total (past l)))
        (leave (skip l (total (past l)) (skip r (total l + s) f)) (past l) (past r) (room l + (s + room r)) (keeps (place a (total (past l))) p) (place a (total (past l))))
    unfolding down_script
    down_grants u = record {
      plan = record {
        answer = 2 * total (past l) + place a (total (past l));
        writes = leave_writes m (both_leave (beside m r (total l + s)) (total (past l)) (beside m l (total (past l)))) (total (past l)) (room l + (s + room r)) (keeps (place a (total (past l))) p)
            ++ (pad_writes (total (past l)) (place a (total (past l))) ++ ((Live at 2 * total l + d ≔ 0) ∷ (Live at 2 * total (past l) + place a (total (past l)) ≔ 1) ∷ []));
        moved = u;
        early = length (both_leave (beside m r (total l + s)) (total (past l)) (beside m l (total (past l))));
      };
      gives = ap (run m) (le_yes (keeps (place a (total (past l))) p) (room l + (s + room r)) _ _ le)
          ∙ gives_bind m (leave_script n c (both_leave (beside m r (total l + s)) (total (past l)) (beside m l (total (past l)))) (total (past l)) (room l + (s + room r)) (keeps (place a (total (past l))) p)) _
          (leave_gives n c m (both_leave (beside m r (total l + s)) (total (past l)) (beside m l (total (past l)))) (total (past l)) (room l + (s + room r)) (keeps (place a (total (past l))) p)
          (head_seen n c m (Here f l (used s d) r) o) (rest_list n c p a m f l r s d al o (room l + (s + room r)) (keeps (place a (total (past l))) p) (omega arith) le)) (gives_done m _);
      answer = refl;
      sound = down_sound;
    }
