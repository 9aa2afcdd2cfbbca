-- What follows from specs/Laying.antt.
use Rattle.std.specs.Prelude.{ℕ, zero, suc, ◌+◌, ◌-◌, ◌/◌, ◌^◌, ◌≤◌, ◌<◌, min, ◌≡◌, refl, List, [], ◌∷◌, ◌++◌, ◌⊎◌}
use Rattle.std.proofs.Common.{arith, sym, ◌∙◌, subst, inl, inr, ⊎_elim}
use Rattle.choice.specs.Choice.{if_le, le?, le_yes, le_no, upd, upd_same, upd_other}
use Rattle.class.specs.Class.{list_of}
use Rattle.definition.specs.Blocks.{Block, free, used, last, gap, total, ◌⟨⟩◌, gaps}
use Rattle.definition.specs.Lists.{Lists, push}
use Rattle.definition.specs.Calls.{Laid, lay}
use Rattle.invariants.specs.Order.{out, side_l, Ordered, order_split, BlockAt, LeftAt, at_split, at_join}
use Rattle.invariants.proofs.Order.{total_zip, one_block}
use Rattle.invariants.specs.Moves.{free_used}
use Rattle.invariants.proofs.Moves.{free_gap}
use Rattle.invariants.specs.Gaps.{total_gaps}
use Rattle.invariants.proofs.Gaps.{gaps_add, gaps_zip, gaps_at, gaps_behind, gaps_cases, gap_used}
use Rattle.invariants.proofs.Regions.{piece_ok, two_grains, gap_out}
use Rattle.script.specs.Memory.{Memory, Size, Before, Next, Live, Table, none, root, free_word, last_word, Write, ◌at◌≔◌, apply, Untouched}
use Rattle.script.proofs.Memory.{apply_append, apply_untouched, untouched_append}
use Rattle.script.specs.Script.{over, ◌>>=◌}
use Rattle.script.proofs.Script.{over_run, goes, gives_done}
use Rattle.sound.specs.Row.{Row, Left, link_l}
use Rattle.sound.proofs.Row.{row_split, row_join, left_keep, row_keep}
use Rattle.sound.proofs.Strung.{push_untouched}
use Rattle.sound.specs.Checks.{see_head}
use Rattle.sound.proofs.Checks.{few_head}
use Rattle.sound.specs.RegionPlan.{piece_writes, lay_script}
use Rattle.sound.specs.Relists.{Relists}
use Rattle.sound.proofs.Relists.{relists_push}
use Rattle.sound.proofs.Swaps.{pad_free}
use Rattle.sound.specs.Founded.{Founded}
use Rattle.sound.proofs.Founded.{founded_real, head_founded, pad_grain}
use Rattle.sound.specs.Links.{push_writes}
use Rattle.sound.specs.Laying.{Lays}

-- ---- what stands before a piece

-- the block behind l stands outside a piece
link_out : (l : List Block) → side_l l ≡ out → link_l l ≡ none
link_out [] e = refl
link_out (free s ∷ l) e = let z : ◌≡◌ {A = ℕ} 0 1 = cc in absurd (omega arith)
link_out (used s d ∷ l) e = let z : ◌≡◌ {A = ℕ} 0 1 = cc in absurd (omega arith)
link_out (last ∷ l) e = refl
link_out (gap ∷ l) e = refl

-- gaps have no headers
left_gaps : (sz up : ℕ → ℕ) (k : ℕ) (l : List Block) → Left sz up (gaps k l) → Left sz up l
left_gaps sz up zero l h = h
left_gaps sz up (suc k) l h = left_gaps sz up k l h.1

-- nor does the block behind them say what stands before it
link_gaps : (k : ℕ) (l : List Block) → 1 ≤ k → link_l (gaps k l) ≡ none
link_gaps zero l h = absurd (omega arith)
link_gaps (suc k) l h = refl

-- ---- one piece

-- the two headers written
abbrev headed : Memory → ℕ → ℕ → Memory
headed m x s = apply m ((Size at x ≔ free_word s) ∷ (Before at x ≔ none) ∷ (Size at x + s ≔ last_word) ∷ (Before at x + s ≔ x) ∷ [])

module _ (l r : List Block) (k : ℕ) (p : 2 ≤ k) where
  -- blocks in use are those from before
  used_old : (y s d : ℕ) → BlockAt y (used s d) 0 (l ⟨⟩ free (k - 1) ∷ last ∷ r) → BlockAt y (used s d) 0 (l ⟨⟩ gaps k r)
  used_old y s d h = at_join y (used s d) l (gaps k r) (go (at_split y (used s d) l (free (k - 1) ∷ last ∷ r) h))
    where
      go : LeftAt y (used s d) l ⊎ BlockAt y (used s d) (total l) (free (k - 1) ∷ last ∷ r) → LeftAt y (used s d) l ⊎ BlockAt y (used s d) (total l) (gaps k r)
      go (inl h) = inl h
      go (inr (inl h)) = absurd (free_used (sym h.1))
      go (inr (inr (inl h))) = let e : last ≡ used s d = h.1 in let z : ◌≡◌ {A = ℕ} 0 1 = cc in absurd (omega arith)
      go (inr (inr (inr h))) = let e : total l + (k - 1) + 1 ≡ total l + k = omega arith in inr (gaps_behind k y (total l) (used s d) r (rw e at h))

  -- and all of them
  used_still : (y s d : ℕ) → BlockAt y (used s d) 0 (l ⟨⟩ gaps k r) → BlockAt y (used s d) 0 (l ⟨⟩ free (k - 1) ∷ last ∷ r)
  used_still y s d h = at_join y (used s d) l (free (k - 1) ∷ last ∷ r) (⊎_elim
      (λ (i : LeftAt y (used s d) l). inl i)
      (λ (i : BlockAt y (used s d) (total l) (gaps k r)). inr (go (gaps_cases k y (total l) (used s d) r i)))
      (at_split y (used s d) l (gaps k r) h))
    where
      go : ((total l ≤ y) × (y < total l + k) × (gap ≡ used s d)) ⊎ BlockAt y (used s d) (total l + k) r → BlockAt y (used s d) (total l) (free (k - 1) ∷ last ∷ r)
      go (inl i) = absurd (gap_used (sym i.2))
      go (inr i) = let e : total l + (k - 1) + 1 ≡ total l + k = omega arith in inr (inr (rw e i))

  -- their headers in the row
  row_piece : (m : Memory) → Ordered out (l ⟨⟩ gaps k r) → Row (m Size) (m Before) 0 none (l ⟨⟩ gaps k r)
      → let d = headed m (total l) (k - 1) in Row (d Size) (d Before) 0 none (l ⟨⟩ free (k - 1) ∷ last ∷ r)
  row_piece m o w =
      let x = total l in
      let s = k - 1 in
      let u : ℕ → ℕ = upd (m Size) x (free_word s) in
      let v : ℕ → ℕ = upd (m Before) x none in
      let z : Row (m Size) (m Before) 0 none (gaps k l ⟨⟩ r) = rw (gaps_zip k l r) w in
      let h = row_split (m Size) (m Before) (gaps k l) r z in
      let i = order_split l (gaps k r) o in
      let e : total (gaps k l) ≡ x + s + 1 = omega (arith, total_gaps k l) in
      let b : Row (m Size) (m Before) (x + s + 1) none r = rw (e, link_gaps k l (omega arith)) at h.1 in
      row_join (upd u (x + s) last_word) (upd v (x + s) x) (last ∷ free s ∷ l) r (
        (upd_same u (x + s) last_word (x + s) refl, upd_same v (x + s) x (x + s) refl),
        (
          (
            upd_other u (x + s) last_word x (omega arith) ∙ upd_same (m Size) x (free_word s) x refl,
            upd_other v (x + s) x x (omega arith) ∙ upd_same (m Before) x none x refl ∙ sym (link_out l (start_out k (omega arith) i.1)),
          ),
          left_keep (m Size) (m Before) (upd u (x + s) last_word) (upd v (x + s) x) l i.0
              (λ y a. upd_other u (x + s) last_word y (omega arith) ∙ upd_other (m Size) x (free_word s) y (omega arith))
              (λ y a. upd_other v (x + s) x y (omega arith) ∙ upd_other (m Before) x none y (omega arith)) (left_gaps (m Size) (m Before) k l h.0),
        ),
      )
      (row_keep (m Size) (m Before) (upd u (x + s) last_word) (upd v (x + s) x) (x + s + 1) none r
      (λ y a. upd_other u (x + s) last_word y (omega arith) ∙ upd_other (m Size) x (free_word s) y (omega arith))
      (λ y a. upd_other v (x + s) x y (omega arith) ∙ upd_other (m Before) x none y (omega arith)) b)
    where
      start_out : (k : ℕ) → 1 ≤ k → Ordered (side_l l) (gaps k r) → side_l l ≡ out
      start_out zero h o = absurd (omega arith)
      start_out (suc k) h o = gap_out (side_l l) o.0

-- a piece laid on such a memory leaves such a memory
pub piece_founded : (n c : ℕ) (m : Memory) (f : Lists) (l r : List Block) (k : ℕ) → 2 ≤ k → k ≤ 2 ^ c → Founded n c m (l ⟨⟩ gaps k r) f
    → Founded n c (apply m (piece_writes (total l) k (m Next (root (list_of (k - 1)))))) (l ⟨⟩ free (k - 1) ∷ last ∷ r) (push (list_of (k - 1)) (total l) f)
piece_founded n c m f l r k p q o =
    let x = total l in
    let j = list_of (k - 1) in
    let d = headed m x (k - 1) in
    let w = push_writes j x (m Next (root j)) in
    let xs = l ⟨⟩ gaps k r in
    let g : BlockAt x gap 0 xs = at_join x gap l (gaps k r) (inr (gaps_at k x x r (omega arith) (omega arith))) in
    let v : Relists d f w (push j x f) = relists_push d f o.heap.exact.apiece (founded_real n c m xs f o) (record { links = o.strung.links; marks = o.strung.marks })
    j x (m Next (root j)) (omega (arith, o.whole, o.small, total_zip l (gaps k r), total_gaps k r))
    (λ i a. let t = o.heap.exact.there i x a in free_gap (one_block x gap (free t.0) xs o.heap.order g t.1)) refl in
    let z = piece_ok c f l r k p q o.heap in
    let e = apply_untouched d w Live (v.rest Live (λ e. omega arith) (λ e. omega arith) (λ e. omega arith)) in
    record {
      heap = z;
      whole = omega (arith, o.whole, total_zip l (gaps k r), total_zip l (free (k - 1) ∷ last ∷ r), total_gaps k r);
      small = o.small;
      row = rw (
        apply_untouched d w Size (v.rest Size (λ e. omega arith) (λ e. omega arith) (λ e. omega arith)),
        apply_untouched d w Before (v.rest Before (λ e. omega arith) (λ e. omega arith) (λ e. omega arith)),
      ) (row_piece l r k p m o.heap.order o.row);
      strung = v.strung;
      lively = record {
        set = λ y s d h. rw e (o.lively.set y s d (used_old l r k p y s d h));
        real = λ u i. let t = o.lively.real u (rw e at i) in (t.0, t.1, t.2, used_still l r k p t.0 t.1 t.2 t.3, t.4);
      };
      padded = λ y s i h a.
          let b = used_old l r k p y s i h in
          v.quiet (y + i / 2 - 1) (pad_grain n c m xs f o y s i b a) (pad_free c xs f y s i o.heap b a) (pad_free c _ (push j x f) y s i z h a) ∙ o.padded y s i b a;
    }

-- ---- all pieces

-- what holds in both cases holds of two choices with one test
le_pair : {A B : Type 0} (P : A → B → Type 0) (a b : ℕ) (x y : A) (u v : B) → (a ≤ b → P x u) → (b < a → P y v) → P (if_le a b x y) (if_le a b u v)
le_pair P a b x y u v f g = ⊎_elim
    (λ (e : a ≤ b). rw (le_yes a b x y e, le_yes a b u v e) (f e))
    (λ (e : b < a). let n : a ≤ b → ⊥ = (λ q. omega arith) in rw (le_no a b x y n, le_no a b u v n) (g e))
    (le? a b)

-- a piece is no matter of the table
table_spared : (x k h : ℕ) → Untouched Table (piece_writes x k h)
table_spared x k h = (
  (λ e. omega arith),
  (
    (λ e. omega arith),
    (
      (λ e. omega arith),
      (
        (λ e. omega arith),
        push_untouched Table (λ e. omega arith) (λ e. omega arith) (λ e. omega arith) (list_of (k - 1)) x h,
      ),
    ),
  ),
)

-- one piece, if the others are laid so
lays_one : (n c i : ℕ) (m : Memory) (w : List Write) (f : Lists) (l r : List Block) (x k rest : ℕ) (d : Laid) → 2 ≤ k → k ≤ 2 ^ c → x ≡ total l
    → Founded n c (apply m w) (l ⟨⟩ gaps k (gaps rest r)) f → Untouched Table w
    → ((v : List Write) → Founded n c (apply m v) (l ⟨⟩ free (k - 1) ∷ last ∷ gaps rest r) (push (list_of (k - 1)) (total l) f) → Untouched Table v
    → Lays n c m r (lay_script n c i v (x + k) rest) d)
    → Lays n c m r (over w (see_head n (list_of (k - 1))) >>= (λ h. lay_script n c i (w ++ piece_writes x k h) (x + k) rest)) d
lays_one n c i m w f l r x k rest d p q e o u others =
    let j = list_of (k - 1) in
    let v = piece_writes x k (apply m w Next (root j)) in
    let t = others (w ++ v) (rw (apply_append m w v, e) (piece_founded n c (apply m w) f l (gaps rest r) k p q o)) (untouched_append Table w v u (table_spared x k (apply m w Next (root j)))) in
    record {
      writes = t.writes;
      gives = goes m (over w (see_head n j)) (λ h. lay_script n c i (w ++ piece_writes x k h) (x + k) rest)
          (over_run m w (see_head n j) 3 (few_head n j) ∙ head_founded n c (apply m w) _ f o j) ∙ t.gives;
      founded = t.founded;
      table = t.table;
    }

-- the whole region, from the writes w on
pub lays : (n c i : ℕ) (m : Memory) (w : List Write) (f : Lists) (l r : List Block) (x len : ℕ) → 1 ≤ c → x ≡ total l
    → Founded n c (apply m w) (l ⟨⟩ gaps len r) f → Untouched Table w → Lays n c m r (lay_script n c i w x len) (lay c i f l len)
unfolding lay_script lay
lays n c zero m w f l r x len big e o u = record { writes = w; gives = gives_done m _; founded = o; table = u }
lays n c (suc i) m w f l r x len big e o u = le_pair (Lays n c m r) len 1 _ _ _ _
    (λ _. record { writes = w; gives = gives_done m _; founded = o; table = u })
    (λ a. let k = min len (2 ^ c) in
    let g : len ≡ k + (len - k) = omega arith in
    lays_one n c i m w f l r x k (len - k) _ (omega (arith, two_grains c big)) (omega arith) e
    (rw (gaps_add k (len - k) r) at (subst (λ (t : ℕ). Founded n c (apply m w) (l ⟨⟩ gaps t r) f) g o)) u
    (λ v b y. lays n c i m v _ (last ∷ free (k - 1) ∷ l) r (x + k) (len - k) big (omega (arith, two_grains c big)) b y))
