-- What follows from specs/PayloadReturn.antt.
use Rattle.std.specs.Prelude.{ℕ, ◌+◌, ◌-◌, ◌*◌, ◌≤◌, ◌≡◌, refl, List, [], ◌∷◌, ◌++◌}
use Rattle.std.proofs.Common.{arith, sym, ◌∙◌, subst, ⊎_elim}
use Rattle.std.proofs.Math.Path.{ap}
use Rattle.choice.specs.Choice.{same?}
use Rattle.class.specs.Class.{list_of}
use Rattle.definition.specs.Blocks.{Block, free, used, total, ◌⟨⟩◌, room, past}
use Rattle.definition.specs.Lists.{Lists, skip}
use Rattle.definition.specs.Calls.{Heap}
use Rattle.invariants.specs.Order.{out, BlockAt, at_here, stands_at}
use Rattle.invariants.proofs.Order.{at_whole}
use Rattle.invariants.proofs.Neighbours.{swallow_behind, total_past}
use Rattle.script.specs.Memory.{Memory, Next, Live, none, root, Write, latest}
use Rattle.script.specs.Script.{Script, ok, run, Gives, ◌>>=◌}
use Rattle.script.proofs.Script.{goes, halts, inv_bind, inv_done}
use Rattle.sound.specs.Sound.{Sound}
use Rattle.sound.specs.Checks.{must_list, see_head, Beside, nobody, somebody, Owner, see_owner, see_behind, see_before}
use Rattle.sound.specs.Plans.{Plan, leaves, afterwards, both_leave, give_back_script, join_script, free_writes, room_of}
use Rattle.sound.proofs.Relists.{relists_none}
use Rattle.sound.proofs.Swaps.{used_place}
use Rattle.sound.proofs.Skips.{skips_behind, fewer_behind, skips_both, fewer_both}
use Rattle.sound.specs.SeenBeside.{Here, beside}
use Rattle.sound.proofs.SeenBeside.{room_seen, owner_seen, behind_seen, before_seen}
use Rattle.sound.proofs.Seen.{lists_real, head_seen, not_owner}
use Rattle.sound.specs.PayloadWrites.{Spares, Unlisted, Aside}
use Rattle.sound.proofs.PayloadWrites.{spares_append, spares_from, push_off, free_off, aside_off, aside_edge, after_off, leaves_off}
use Rattle.sound.proofs.PayloadTake.{used_small, free_aside}
use Rattle.invariants.proofs.Kept.{kept_join_back}
use Rattle.sound.specs.Links.{push_writes}
use Rattle.invariants.proofs.Moves.{used_unlisted}
use Rattle.sound.specs.PayloadReturn.{Owned}

-- what joinScript plans, where the heads are seen
join_planned : (n c : ℕ) (m : Memory) (q z t : ℕ) (w : List Write) (p : Plan) → ((j : ℕ) → Gives m (see_head n j) (m Next (root j))) → Gives m (join_script n c q z t w) p
    → p.writes ≡ (w ++ push_writes (list_of t) z (latest w Next (root (list_of t)) (m Next (root (list_of t))))) ++ free_writes q z t
unfolding join_script
join_planned n c m q z t w p heads g =
    let i = inv_bind m (must_list c t) _ g in
    ap (λ (u : Plan). u.writes) (sym (inv_done m _ p (sym (goes m (see_head n (list_of t)) _ (heads (list_of t))) ∙ i.2)))

-- ---- around a used block

-- what was read before no writes is as it was
after_none : (z : ℕ) (b : Beside) → afterwards [] z b ≡ b
after_none z nobody = refl
after_none z (somebody t e) = refl

-- a script that begins with it and is not refused has found it
pub owned : (n c : ℕ) (m : Memory) (h : Heap) (q : ℕ) → Sound n c m h → (k : Owner → Script Plan) (t : Plan) → Gives m (see_owner q >>= k) t → Owned h q
owned n c m h q o k t g = ⊎_elim
    (λ (e : m Live q ≡ 1).
    let b = o.lively.real q e in
    let p = stands_at b.0 (used b.1 b.2) h.blocks b.3 in
    record { l = p.before; r = p.behind; s = b.1; d = b.2; whole = p.whole; payload = omega (arith, b.4, p.place) })
    (λ (e : m Live q ≡ 1 → ⊥). let i = halts m (see_owner q) k (not_owner m q e) in let z : ◌≡◌ {A = ℕ} 0 1 = cc in absurd (omega arith))
    (same? (m Live q) 1)

module _ (n c : ℕ) (m : Memory) (f : Lists) (l r : List Block) (s d : ℕ) (o : Sound n c m (Here f l (used s d) r)) where
  -- another used block lies beside it and its free neighbours
  pub both_aside : (y t e : ℕ) → BlockAt y (used t e) 0 (l ⟨⟩ used s d ∷ r) → (2 * y + e ≡ 2 * total l + d → ⊥) → Aside y t (total (past l)) (room l + (s + room r))
  both_aside y t e b ne = ⊎_elim
      (λ (i : (y ≡ total l) × (used s d ≡ used t e)). absurd (ne (omega (arith, i.0, used_place i.1))))
      (λ (i : BlockAt y (used t e) 0 (past l ⟨⟩ free (room l + (s + room r)) ∷ past r)). free_aside (past l ⟨⟩ free (room l + (s + room r)) ∷ past r) y t e (total (past l)) (room l + (s + room r)) i (at_here (past l) (past r) (free (room l + (s + room r)))))
      (kept_join_back y (used t e) tt l r s d (room l + (s + room r)) refl b)

  module _ (y t : ℕ) (small : y + t ≤ none) (un : Unlisted f y t) where
    -- its neighbour behind leaves its list
    pub behind_off : Spares y t 1 (leaves (beside m r (total l + s)))
    behind_off = subst (λ (b : Beside). Spares y t 1 (leaves b)) (after_none (total l + s) (beside m r (total l + s)))
        (leaves_off m f f [] (relists_none m f o.heap.exact.apiece (lists_real n c m (Here f l (used s d) r) o) o.strung) y t small un r (total l + s)
        (λ k q i. o.heap.exact.listed (total l + s) k (subst (λ (a : List Block). BlockAt (total l + s) (free k) 0 (l ⟨⟩ used s d ∷ a)) (sym i) (at_here (used s d ∷ l) q (free k)))))

    -- both, one after the other
    pub both_off : Spares y t 1 (both_leave (beside m r (total l + s)) (total (past l)) (beside m l (total (past l))))
    both_off = spares_append y t 1 (leaves (beside m r (total l + s))) _ behind_off
        (leaves_off m f (skip r (total l + s) f) (leaves (beside m r (total l + s))) (skips_behind n c m f l r s d o) y t small (λ u i j k v. un u i j k (fewer_behind n c m f l r s d o k u v)) l (total (past l))
        (λ k q i. (swallow_behind c f l r s d o.heap).exact.listed (total (past l)) k
        (subst (λ (a : List Block). BlockAt (total (past a)) (free k) 0 (a ⟨⟩ used (s + room r) d ∷ past r)) (sym i) (at_here q (used (s + room r) d ∷ past r) (free k)))))

  -- ---- return

  -- what stands beside is seen
  back_run : run m (give_back_script n c (2 * total l + d))
      ≡ run m (join_script n c (2 * total l + d) (total (past l)) (room l + (s + room r)) (both_leave (beside m r (total l + s)) (total (past l)) (beside m l (total (past l)))))
  unfolding give_back_script
  back_run =
      let q = 2 * total l + d in
      let a = beside m r (total l + s) in
      let b = beside m l (total (past l)) in
      let i : total l - room_of b ≡ total (past l) = omega (arith, room_seen m l (total (past l)), total_past l) in
      let j : room_of b + (s + room_of a) ≡ room l + (s + room r) = omega (arith, room_seen m l (total (past l)), room_seen m r (total l + s)) in
      goes m (see_owner q) _ (owner_seen n c m f l r s d o) ∙ goes m (see_behind n c (total l + s)) _ (behind_seen n c m f l r s d o)
      ∙ goes m (see_before n c (total l)) _ (before_seen n c m f l r s d o)
      ∙ ap (λ (x : ℕ). run m (join_script n c q x (room_of b + (s + room_of a)) (both_leave a x b))) i
      ∙ ap (λ (x : ℕ). run m (join_script n c q (total (past l)) x (both_leave a (total (past l)) b))) j

  -- another used block lies beside the free one that comes
  back_there : (p : Plan) (y t e : ℕ) → Gives m (give_back_script n c (2 * total l + d)) p → BlockAt y (used t e) 0 (l ⟨⟩ used s d ∷ r) → (2 * y + e ≡ 2 * total l + d → ⊥) → Spares y t 1 p.writes
  back_there p y t e g b ne =
      let z = total (past l) in
      let k = room l + (s + room r) in
      let w = both_leave (beside m r (total l + s)) z (beside m l z) in
      let v = push_writes (list_of k) z (latest w Next (root (list_of k)) (m Next (root (list_of k)))) in
      let sm = used_small n c m (Here f l (used s d) r) o y t e b in
      let un = used_unlisted c (l ⟨⟩ used s d ∷ r) f y t e o.heap b in
      let ad = both_aside y t e b ne in
      let so = (at_whole (total l) (used s d) 0 out (l ⟨⟩ used s d ∷ r) o.heap.order (at_here l r (used s d))).0 in
      rw (join_planned n c m (2 * total l + d) z k w p (head_seen n c m (Here f l (used s d) r) o) (sym back_run ∙ g))
      (spares_append y t 1 (w ++ v) (free_writes (2 * total l + d) z k)
      (spares_append y t 1 w v (both_off y t sm un)
      (push_off y t (list_of k) z _ sm (aside_off y t z k z ad (omega arith) (omega arith))
      (after_off m f (skip l z (skip r (total l + s) f)) w (skips_both n c m f l r s d o) y t sm (λ u i j q h. un u i j q (fewer_both n c m f l r s d o q u h)) (list_of k))))
      (free_off y t (2 * total l + d) z k (aside_edge y t z k z ad (omega arith) (omega arith)) (aside_edge y t z k (z + k) ad (omega arith) (omega arith))))

-- the payload of every other used block
pub back_spares : (n c : ℕ) (m : Memory) (h : Heap) (q : ℕ) (p : Plan) (y s d : ℕ) → Sound n c m h → run m (give_back_script n c q) ≡ ok p
    → BlockAt y (used s d) 0 h.blocks → (2 * y + d ≡ q → ⊥) → Spares y s d p.writes
unfolding give_back_script
back_spares n c m h q p y s d o g b ne =
    let w = owned n c m h q o _ p g in
    spares_from y s d (at_whole y (used s d) 0 out h.blocks o.heap.order b).1.some p.writes
    (back_there n c m h.lists w.l w.r w.s w.d (subst (λ (A : List Block). Sound n c m (record { blocks = A; lists = h.lists })) w.whole o) p y s d
    (subst (λ (u : ℕ). Gives m (give_back_script n c u) p) w.payload g) (subst (λ (A : List Block). BlockAt y (used s d) 0 A) w.whole b) (λ e. ne (e ∙ sym w.payload)))
