-- T7 in memory, for giving a region: its pieces are laid where nothing was given, so no used block is there.
use Prim.Native.Nat.{ℕ, zero, suc, ◌+◌, ◌-◌, ◌*◌, ◌^◌, ◌≤◌, ◌<◌, min}
use native.Mathlib.Omega.{arith}
use Rattle.std.specs.Prelude.{◌≡◌, ◌⊎◌}
use Rattle.std.proofs.Math.Path.{refl, subst}
use Rattle.std.proofs.Common.{ap, sym, ◌∙◌}
use mathlib.Core.List.{List, [], ◌∷◌, ◌++◌}
use Rattle.std.proofs.Math.Logic.{inl, inr, ⊎_elim}
use Rattle.choice.specs.Choice.{if_eq, le_yes, le_no, le?}
use Rattle.class.specs.Class.{list_of}
use Rattle.definition.specs.Blocks.{Block, free, used, last, gap, total, ◌⟨⟩◌, gaps}
use Rattle.definition.specs.Lists.{Lists, push}
use Rattle.definition.specs.Calls.{Heap}
use Rattle.invariants.specs.Order.{out, BlockAt, LeftAt, at_split, at_low, left_high}
use Rattle.invariants.proofs.Order.{at_whole}
use Rattle.invariants.specs.Members.{Mem, mem_push}
use Rattle.invariants.specs.Gaps.{Spot}
use Rattle.invariants.proofs.Gaps.{gaps_add, gaps_cases, gap_used}
use Rattle.invariants.proofs.Regions.{two_grains}
use Rattle.script.specs.Memory.{Memory, Next, Table, none, root, Write, apply}
use Rattle.script.proofs.Memory.{apply_append}
use Rattle.script.specs.Script.{Gives, ok, no, run, done, stop, over, unless_le, must_eq, must_le}
use Rattle.script.proofs.Script.{goes, over_run, inv_bind, inv_get, inv_done, inv_le}
use Rattle.sound.specs.Sound.{Sound}
use Rattle.sound.specs.Checks.{see_head}
use Rattle.sound.proofs.Checks.{few_head}
use Rattle.sound.specs.Plans.{Plan}
use Rattle.sound.specs.RegionPlan.{Looked, Layout, piece_writes, see_regions, lay_script, entry_writes, region_script}
use Rattle.sound.specs.Founded.{Founded}
use Rattle.sound.proofs.Founded.{sound_founded, founded_real, head_founded}
use Rattle.sound.proofs.Laying.{piece_founded}
use Rattle.sound.specs.RegionTable.{Overlap, Passed}
use Rattle.sound.proofs.RegionTable.{look}
use Rattle.sound.specs.PayloadWrites.{Spares, Unlisted, Aside}
use Rattle.sound.proofs.PayloadWrites.{spares_append, spares_from, table_word, push_off, head_off, aside_off, aside_edge}
use Rattle.sound.proofs.PayloadTake.{used_small}
use Rattle.invariants.proofs.Moves.{used_unlisted}
use Rattle.sound.specs.RegionSound.{nothing_seen}
use Rattle.sound.proofs.RegionSound.{clear_spot}

-- ---- pieces

module _ (n c : ℕ) (m : Memory) (y s : ℕ) (small : y + s ≤ none) where
  -- one piece beside the block
  piece_off : (x k h : ℕ) → 1 ≤ k → Aside y s x k → (y ≤ h → h < y + s → ⊥) → Spares y s 1 (piece_writes x k h)
  piece_off x k h p a b = (
    (λ _ i. edge x (omega arith) (omega arith) (omega arith) (omega arith)),
    (
      (λ _ i. edge x (omega arith) (omega arith) (omega arith) (omega arith)),
      (
        (λ _ i. edge (x + (k - 1)) (omega arith) (omega arith) (omega arith) (omega arith)),
        (
          (λ _ i. edge (x + (k - 1)) (omega arith) (omega arith) (omega arith) (omega arith)),
          push_off y s (list_of (k - 1)) x h small (aside_off y s x k x a (omega arith) (omega arith)) b,
        ),
      ),
    ),
  )
    where
      edge : (u : ℕ) → x ≤ u → u ≤ x + k → y < u → u < y + s → ⊥
      edge u = aside_edge y s x k u a

  -- all pieces, from the writes w on
  lay_off : (i : ℕ) (w : List Write) (f : Lists) (l r : List Block) (x len : ℕ) (v : Layout) → 1 ≤ c → x ≡ total l → Founded n c (apply m w) (l ⟨⟩ gaps len r) f
      → Unlisted f y s → Spares y s 1 w → Aside y s x len → Gives m (lay_script n c i w x len) v → Spares y s 1 v.writes
  unfolding lay_script
  lay_off zero w f l r x len v big e o un sp a g = subst (λ (u : Layout). Spares y s 1 u.writes) (inv_done m _ v g) sp
  lay_off (suc i) w f l r x len v big e o un sp a g = ⊎_elim
      (λ (h : len ≤ 1). subst (λ (u : Layout). Spares y s 1 u.writes) (inv_done m _ v (sym (ap (run m) (le_yes len 1 _ _ h)) ∙ g)) sp)
      (λ (h : 1 < len).
      let k = min len (2 ^ c) in
      let j = list_of (k - 1) in
      let hd = apply m w Next (root j) in
      let two = two_grains c big in
      let cut : len ≡ k + (len - k) = omega arith in
      let here : Aside y s x k = ⊎_elim (λ (b : y + s ≤ x). inl b) (λ (b : x + len ≤ y). inr (omega arith)) a in
      let rest : Aside y s (x + k) (len - k) = ⊎_elim (λ (b : y + s ≤ x). inl (omega arith)) (λ (b : x + len ≤ y). inr (omega arith)) a in
      let fo : Founded n c (apply m w) (l ⟨⟩ gaps k (gaps (len - k) r)) f = rw (gaps_add k (len - k) r) at (subst (λ (t : ℕ). Founded n c (apply m w) (l ⟨⟩ gaps t r) f) cut o) in
      let seen = over_run m w (see_head n j) 3 (few_head n j) ∙ head_founded n c (apply m w) (l ⟨⟩ gaps len r) f o j in
      let ho = head_off (apply m w) f o.heap.exact.apiece (founded_real n c (apply m w) (l ⟨⟩ gaps len r) f o) o.strung y s small un j hd refl in
      lay_off i (w ++ piece_writes x k hd) (push j (total l) f) (last ∷ free (k - 1) ∷ l) r (x + k) (len - k) v big (omega arith)
      (rw (apply_append m w (piece_writes x k hd), e) (piece_founded n c (apply m w) f l (gaps (len - k) r) k (omega arith) (omega arith) fo))
      (λ u p q t b. ⊎_elim (λ (z : (u ≡ total l) × (t ≡ j)). aside_off y s x k u here (omega (arith, z.0)) (omega (arith, z.0)) p q) (λ (z : Mem u (f t)). un u p q t z)
      (mem_push f o.heap.exact.apiece j (total l) t u b))
      (spares_append y s 1 w (piece_writes x k hd) sp (piece_off x k hd (omega arith) here ho)) rest
      (sym (goes m (over w (see_head n j)) _ seen) ∙ (sym (ap (run m) (le_no len 1 _ _ (omega arith))) ∙ g)))
      (le? len 1)

-- ---- the region

-- a used block lies beside grains that are not given
spot_aside : (g len : ℕ) (xs : List Block) (y s d : ℕ) → Spot g len xs → BlockAt y (used s d) 0 xs → Aside y s g len
spot_aside g len xs y s d p b = go (at_split y (used s d) p.before (gaps len p.rest) (subst (λ (A : List Block). BlockAt y (used s d) 0 A) p.whole b))
  where
    go : LeftAt y (used s d) p.before ⊎ BlockAt y (used s d) (total p.before) (gaps len p.rest) → Aside y s g len
    go (inl i) = inl (omega (arith, left_high y (used s d) p.before i, p.place))
    go (inr i) = ⊎_elim
        (λ (j : (total p.before ≤ y) × (y < total p.before + len) × (gap ≡ used s d)). absurd (gap_used (sym j.2)))
        (λ (j : BlockAt y (used s d) (total p.before + len) p.rest). inr (omega (arith, at_low y (used s d) (total p.before + len) p.rest j, p.place)))
        (gaps_cases len y (total p.before) (used s d) p.rest i)

module _ (n c g len : ℕ) (m : Memory) (h : Heap) (o : Sound n c m h) where
  -- grains that the table lets pass are not given
  passed_spot : (l : Looked) → 1 ≤ len → g + len ≤ n → Gives m (see_regions n g len (m Table 0) 0 nothing_seen) l → Spot g len h.blocks
  passed_spot l some near k = ⊎_elim
      (λ (p : (run m (see_regions n g len (m Table 0) 0 nothing_seen) ≡ no 4) × Overlap m g len). let e = p.0 in let z : ◌≡◌ {A = ℕ} 0 1 = cc in absurd (omega arith))
      (λ (p : Passed n g len m (m Table 0) 0 nothing_seen). clear_spot n c g len m h o some near p)
      (look n g len m some (λ j u. let i = o.given.sane j u in (i.0, omega (arith, i.1, o.whole))) (m Table 0) 0 nothing_seen (omega arith))

  -- the payload of every used block
  pub region_spares : (most join : ℕ) (t : Plan) (y s d : ℕ) → 1 ≤ c → run m (region_script most join n c g len) ≡ ok t → BlockAt y (used s d) 0 h.blocks → Spares y s d t.writes
  unfolding region_script
  region_spares most join t y s d big k b =
      let r = m Table 0 in
      let k1 = inv_bind m (if_eq r most (stop 6) (done (tt {0}))) _ (inv_get m Table 0 _ k) in
      let k2 = inv_bind m (unless_le 4 2 len) _ k1.2 in
      let k3 = inv_bind m (unless_le 4 (g + len) n) _ k2.2 in
      let k4 = inv_bind m (must_le r most) _ k3.2 in
      let k5 = inv_bind m (see_regions n g len r 0 nothing_seen) _ k4.2 in
      let k6 = inv_bind m (unless_le 4 join k5.0.meets) _ k5.2 in
      let k7 = inv_bind m (must_eq k5.0.wrong 0) _ k6.2 in
      let k8 = inv_bind m (lay_script n c len [] g len) _ k7.2 in
      let p = passed_spot k5.0 (omega (arith, inv_le m 4 2 len k2.1)) (inv_le m 4 (g + len) n k3.1) k5.1 in
      let v = entry_writes r g (g + (len - k8.0.over)) in
      subst (λ (u : Plan). Spares y s d u.writes) (inv_done m _ t k8.2)
      (spares_from y s d (at_whole y (used s d) 0 out h.blocks o.heap.order b).1.some (k8.0.writes ++ v)
      (spares_append y s 1 k8.0.writes v
      (lay_off n c m y s (used_small n c m h o y s d b) len [] h.lists p.before p.rest g len k8.0 big (sym p.place)
      (subst (λ (xs : List Block). Founded n c m xs h.lists) p.whole (sound_founded n c m h o))
      (used_unlisted c h.blocks h.lists y s d o.heap b) tt (spot_aside g len h.blocks y s d p b) k8.1)
      (table_word y s 6 (2 * r + 1) (omega arith), (table_word y s 6 (2 * r + 2) (omega arith), (table_word y s 6 0 (omega arith), tt)))))
