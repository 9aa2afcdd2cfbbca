-- What follows from specs/PayloadTake.antt.
use Rattle.std.specs.Prelude.{ℕ, suc, ◌+◌, ◌-◌, ◌*◌, ◌≤◌, ◌<◌, ◌≡◌, List, [], ◌∷◌, ◌++◌}
use Rattle.std.proofs.Common.{arith, ap, sym, ◌∙◌, subst, inl, inr, ⊎_elim}
use Rattle.std.proofs.Math.Path.{refl}
use Rattle.choice.specs.Choice.{eq_yes, eq_no, same?}
use Rattle.bits.specs.First.{first_set}
use Rattle.bits.proofs.First.{first_from}
use Rattle.class.specs.Class.{list_of, start_of}
use Rattle.class.proofs.Class.{start_fits}
use Rattle.definition.specs.Blocks.{Block, free, used}
use Rattle.definition.specs.Calls.{Heap, wanted, place, keeps}
use Rattle.invariants.specs.Order.{out, BlockAt, Apart, same, before, behind}
use Rattle.invariants.proofs.Order.{apart, at_whole, at_end_lem}
use Rattle.invariants.specs.Members.{Mem, mem_drop}
use Rattle.invariants.specs.Placing.{Align}
use Rattle.invariants.proofs.Placing.{align_pos, keeps_wanted, wanted_some, place_some, keeps_holds}
use Rattle.invariants.specs.Moves.{free_used}
use Rattle.invariants.proofs.Moves.{used_unlisted}
use Rattle.script.specs.Memory.{Memory, Before, Next, Prev, Mark, Live, none, root, Write, ◌at◌≔◌}
use Rattle.script.specs.Script.{ok, run, done, Gives, unless_le, must_eq}
use Rattle.script.proofs.Script.{goes, searches, inv_bind, inv_get, inv_done, inv_eq, inv_le}
use Rattle.sound.proofs.Chain.{head_is_lem}
use Rattle.sound.specs.Sound.{Sound}
use Rattle.sound.specs.Checks.{must_grain, must_free, must_lead, must_back, must_busy, must_list, see_head}
use Rattle.sound.specs.Plans.{Plan, leave_script, whole_writes, pad_writes, take_script}
use Rattle.sound.proofs.Relists.{relists_drop}
use Rattle.sound.specs.Leave.{rest_writes, leave_writes}
use Rattle.sound.proofs.Seen.{lists_real, head_seen, free_seen}
use Rattle.sound.specs.PayloadWrites.{Spares, Aside}
use Rattle.sound.proofs.PayloadWrites.{spares_from, drop_off, placed_off}
use Rattle.sound.specs.Links.{unlink_writes}
use Rattle.sound.specs.PayloadTake.{Taking}

-- what leaveScript plans, where the heads are seen
pub leave_planned : (n c : ℕ) (m : Memory) (w v : List Write) (x t k : ℕ) → ((j : ℕ) → Gives m (see_head n j) (m Next (root j))) → Gives m (leave_script n c w x t k) v → v ≡ leave_writes m w x t k
unfolding leave_script
leave_planned n c m w v x t k heads g = ⊎_elim
    (λ (e : k ≡ t). sym (inv_done m _ _ (ap (run m) (sym (eq_yes k t (done (w ++ whole_writes x t)) _ e)) ∙ g)) ∙ sym (eq_yes k t _ (rest_writes m w x t k) e))
    (λ (ne : k ≡ t → ⊥). let i = inv_bind m (must_list c (t - k)) _ (ap (run m) (sym (eq_no k t (done (w ++ whole_writes x t)) _ ne)) ∙ g) in
    sym (inv_done m _ _ (sym (goes m (see_head n (list_of (t - k))) _ (heads (list_of (t - k)))) ∙ i.2)) ∙ sym (eq_no k t (w ++ whole_writes x t) _ ne))
    (same? k t)

-- a used block ends in the arena
pub used_small : (n c : ℕ) (m : Memory) (h : Heap) → Sound n c m h → (y s d : ℕ) → BlockAt y (used s d) 0 h.blocks → y + s ≤ none
used_small n c m h o y s d b = omega (arith, at_end_lem y (used s d) 0 h.blocks b, o.whole, o.small)

-- a used block and a free one lie apart
pub free_aside : (A : List Block) (y s d x t : ℕ) → BlockAt y (used s d) 0 A → BlockAt x (free t) 0 A → Aside y s x t
free_aside A y s d x t b i = go (apart y x 0 (used s d) (free t) A b i)
  where
    go : Apart y (used s d) x (free t) → Aside y s x t
    go (same e q) = absurd (free_used q)
    go (before e) = inl e
    go (behind e) = inr e

-- ---- take

module _ (n c p a : ℕ) (m : Memory) (h : Heap) (al : Align a) (o : Sound n c m h) where
  -- the parts of the plan given
  taken : (t : Plan) (w : List Write) (k y s : ℕ) → start_of (wanted p a) ≤ k → m Next (root k) ≡ y → y < n → Gives m (must_free y) s → list_of s ≡ k → m Prev y ≡ none
      → Gives m (leave_script n c (unlink_writes k (m Next y) none) y s (keeps (place a y) p)) w
      → record { answer = 2 * y + place a y; writes = w ++ (pad_writes y (place a y) ++ ((Live at 2 * y + place a y ≔ 1) ∷ [])); moved = 0; early = 0 } ≡ t
      → Taking n c p a m h t
  taken t w k y s low e i f li pr lv pl =
      let j : Mem y (h.lists k) = ⊎_elim (λ (q : m Next (root k) ≡ none). absurd (omega (arith, o.small))) (λ (q : Mem (m Next (root k)) (h.lists k)). rw e at q)
      (head_is_lem (m Next) (m Prev) h.lists o.heap.exact.apiece (lists_real n c m h o) o.strung.links k) in
      let b = o.heap.exact.there k y j in
      let q : b.0 ≡ s = (let u = free_seen n c m h o y b.0 b.1 in cc) in
      let bs : BlockAt y (free s) 0 h.blocks = subst (λ (u : ℕ). BlockAt y (free u) 0 h.blocks) q b.1 in
      let en = start_fits (wanted p a) s (wanted_some p a (align_pos a al)) (at_whole y (free s) 0 out h.blocks o.heap.order bs) (rw li low) in
      let lw = leave_planned n c m (unlink_writes k (m Next y) none) w y s (keeps (place a y) p) (head_seen n c m h o) lv in
      record {
        start = y;
        grains = s;
        there = bs;
        member = rw li j;
        first = pr;
        fits = omega (arith, keeps_wanted a y p (align_pos a al));
        answer = ap (λ (u : Plan). u.answer) (sym pl);
        writes = ap (λ (u : Plan). u.writes) (sym pl)
            ∙ ap (λ (u : List Write). u ++ (pad_writes y (place a y) ++ ((Live at 2 * y + place a y ≔ 1) ∷ []))) (subst (λ (u : ℕ). w ≡ leave_writes m (unlink_writes u (m Next y) none) y s (keeps (place a y) p)) (sym li) lw);
      }

  -- what a take gives is such a plan
  pub taking : (t : Plan) → Gives m (take_script n c p a) t → Taking n c p a m h t
  unfolding take_script
  taking t g =
      let i = start_of (wanted p a) in
      let k = first_set (m Mark) (16 * c - i) i in
      let y = m Next (root k) in
      let g1 = inv_bind m (unless_le 1 (suc k) (16 * c)) _ (sym (searches m (16 * c - i) i _ refl) ∙ g) in
      let g2 = inv_bind m (must_grain n y) _ (inv_get m Next (root k) _ g1.2) in
      let g3 = inv_bind m (must_free y) _ g2.2 in
      let s = g3.0 in
      let g4 = inv_bind m (must_eq (list_of s) k) _ g3.2 in
      let g5 = inv_bind m (must_lead Prev y none) _ g4.2 in
      let g6 = inv_bind m (must_back n Prev (m Next y) y) _ (inv_get m Next y _ g5.2) in
      let g7 = inv_bind m (must_busy (y + s)) _ g6.2 in
      let g8 = inv_bind m (must_lead Before (y + s) y) _ g7.2 in
      let g9 = inv_bind m (leave_script n c (unlink_writes k (m Next y) none) y s (keeps (place a y) p)) _ g8.2 in
      taken t g9.0 k y s (first_from (m Mark) (16 * c - i) i) refl (omega (arith, inv_le m 5 (suc y) n g2.1)) g3.1 (inv_eq m 5 (list_of s) k g4.1)
      (inv_eq m 5 (m Prev y) none (inv_get m Prev y _ g5.1)) g9.1 (inv_done m _ t g9.2)

  -- a used block lies beside the free one that becomes used
  pub take_spares : (t : Plan) (y s d : ℕ) → run m (take_script n c p a) ≡ ok t → BlockAt y (used s d) 0 h.blocks → Spares y s d t.writes
  take_spares t y s d g b =
      let k = taking t g in
      let x = k.start in
      let e = place a x in
      let f = h.lists in
      let op = o.heap.exact.apiece in
      let re = lists_real n c m h o in
      let un = used_unlisted c h.blocks f y s d o.heap b in
      let sm = used_small n c m h o y s d b in
      let ad = free_aside h.blocks y s d x k.grains b k.there in
      let w = unlink_writes (list_of k.grains) (m Next x) none in
      let rl = relists_drop m f op re o.strung (list_of k.grains) x (m Next x) none k.member refl (sym k.first) in
      spares_from y s d (at_whole y (used s d) 0 out h.blocks o.heap.order b).1.some t.writes
      (rw k.writes (placed_off m f _ w rl y s sm (λ u i j q v. un u i j q (mem_drop f op (list_of k.grains) x q u v)) x k.grains (keeps e p) e _ (refl, tt)
      (drop_off m f op re o.strung y s sm un (list_of k.grains) x (m Next x) none k.member refl (sym k.first))
      ad k.fits (place_some a x (align_pos a al)) (omega (arith, k.fits, keeps_holds e p))))
