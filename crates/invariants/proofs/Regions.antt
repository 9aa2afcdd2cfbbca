-- What follows from specs/Regions.antt.
use Rattle.std.specs.Prelude.{ℕ, zero, suc, ◌+◌, ◌-◌, ◌^◌, ◌≤◌, ◌<◌, min, ◌≡◌}
use Rattle.std.proofs.Common.{arith, ◌∙◌, subst, inl, inr, pow_pos}
use Rattle.std.proofs.Math.Path.{refl, ap, sym}
use mathlib.Core.List.{List, [], ◌∷◌}
use Rattle.choice.specs.Choice.{le_case, le_yes, le_no}
use Rattle.class.specs.Class.{list_of}
use Rattle.definition.specs.Blocks.{Block, free, used, last, gap, total, ◌⟨⟩◌, find, offset, gaps, bare, without}
use Rattle.definition.specs.Lists.{Lists, push}
use Rattle.definition.specs.Calls.{Heap, Answer, refused, granted, Laid, lay, insert_at, insert, append_at, append, no_region}
use Rattle.invariants.specs.Order.{Side, out, busy, idle, side_l, Fits, used_fits, Ordered, order_split, LeftAt}
use Rattle.invariants.proofs.Order.{first_half, total_zip}
use Rattle.invariants.specs.Gaps.{total_gaps, Spot}
use Rattle.invariants.proofs.Gaps.{gaps_add, gaps_zip, bare_gaps, gaps_bare, gaps_without, gaps_order, gaps_free, free_gaps, gap_free, gap_last, find_spot, bare_spot, find_parts}
use Rattle.invariants.specs.Pieces.{pieces, Listed}
use Rattle.invariants.specs.Moves.{Sane, Ok, recast, vacate, free_used}
use Rattle.invariants.proofs.Moves.{free_last_lem}
use Rattle.invariants.specs.Regions.{another, Grown, laid_out}

-- ---- a piece in the place of gaps

-- no piece stands open before a gap
pub gap_out : (a : Side) → Fits a gap → a ≡ out
gap_out out f = refl
gap_out busy f = absurd f
gap_out idle f = absurd f

-- what is listed behind l is listed in the whole
listed_swap : (c : ℕ) (l r t : List Block) → ((n : ℕ) → Listed c (pieces n r) → Listed c (pieces n t)) → (n : ℕ) → Listed c (pieces n (l ⟨⟩ r)) → Listed c (pieces n (l ⟨⟩ t))
listed_swap c [] r t h n = h n
listed_swap c (free s ∷ l) r t h n = listed_swap c l (free s ∷ r) (free s ∷ t) (λ m. h (m + s)) n
listed_swap c (used s d ∷ l) r t h n = listed_swap c l (used s d ∷ r) (used s d ∷ t) (λ m. h (m + s)) n
listed_swap c (last ∷ l) r t h n = listed_swap c l (last ∷ r) (last ∷ t) (λ m k. (k.0, h 0 k.1)) n
listed_swap c (gap ∷ l) r t h n = listed_swap c l (gap ∷ r) (gap ∷ t) (λ m k. h 0 k) n

-- the same where no piece stands open behind l
listed_out : (c : ℕ) (l r t : List Block) → side_l l ≡ out → (Listed c (pieces 0 r) → Listed c (pieces 0 t)) → Listed c (pieces 0 (l ⟨⟩ r)) → Listed c (pieces 0 (l ⟨⟩ t))
listed_out c [] r t e h = h
listed_out c (free s ∷ l) r t e h = let z : ◌≡◌ {A = ℕ} 0 1 = cc in absurd (omega arith)
listed_out c (used s d ∷ l) r t e h = let z : ◌≡◌ {A = ℕ} 0 1 = cc in absurd (omega arith)
listed_out c (last ∷ l) r t e h = listed_swap c l (last ∷ r) (last ∷ t) (λ m k. (k.0, h k.1)) 0
listed_out c (gap ∷ l) r t e h = listed_swap c l (gap ∷ r) (gap ∷ t) (λ m k. h k) 0

-- behind gaps a piece begins anew
listed_gaps : (c n k : ℕ) (r : List Block) → Listed c (pieces k (gaps (suc n) r)) → Listed c (pieces 0 r)
listed_gaps c zero k r h = h
listed_gaps c (suc n) k r h = listed_gaps c n 0 r h

module _ (c : ℕ) (f : Lists) (l r : List Block) (s : ℕ) (p : 1 ≤ s) (q : s < 2 ^ c) (o : Sane c (l ⟨⟩ gaps (suc s) r) f) where
  -- no piece stands open before the gaps
  first_out : side_l l ≡ out
  first_out = gap_out (side_l l) (order_split l (gaps (suc s) r) o.order).1.0

  -- first a used block and its sentinel stand in their place
  founded : Sane c (l ⟨⟩ used s 1 ∷ last ∷ r) f
  founded = recast c f (gaps (suc s) l) (last ∷ used s 1 ∷ l) r (omega (arith, total_gaps s l))
      (λ w. (tt, tt, (used_fits (side_l l) s 1, (p, first_half p), gaps_order (suc s) l w)))
      (λ w. w)
      (λ y t h. inr (inr (gaps_free (suc s) y t l h)))
      (λ y t h. free_gaps (suc s) y t l (back y t h))
      (λ h. listed_out c l (gaps (suc s) r) (used s 1 ∷ last ∷ r) first_out (λ k. (omega arith, listed_gaps c s 0 r k)) (rw (gaps_zip (suc s) l r) at h))
      (rw (gaps_zip (suc s) l r) o)
    where
      back : (y t : ℕ) → LeftAt y (free t) (last ∷ used s 1 ∷ l) → LeftAt y (free t) l
      back y t (inl h) = absurd (free_last_lem h.1)
      back y t (inr (inl h)) = absurd (free_used h.1)
      back y t (inr (inr h)) = h

  -- then the block is vacated
  piece_of : Sane c (l ⟨⟩ free s ∷ last ∷ r) (push (list_of s) (total l) f)
  piece_of = vacate c f l (last ∷ r) s 1 (rw first_out tt) (tt, tt, (order_split (last ∷ used s 1 ∷ l) r founded.order).1) founded

-- m gaps become a free block and its sentinel
pub piece_ok : (c : ℕ) (f : Lists) (l r : List Block) (m : ℕ) → 2 ≤ m → m ≤ 2 ^ c → Sane c (l ⟨⟩ gaps m r) f → Sane c (l ⟨⟩ free (m - 1) ∷ last ∷ r) (push (list_of (m - 1)) (total l) f)
piece_ok c f l r m h p o =
    let e : m ≡ suc (m - 1) = omega arith in
    piece_of c f l r (m - 1) (omega arith) (omega arith) (subst (λ i. Sane c (l ⟨⟩ gaps i r) f) e o)

-- ---- all pieces

-- there are lists for a piece of two grains
pub two_grains : (c : ℕ) → 1 ≤ c → 2 ≤ 2 ^ c
two_grains zero h = absurd (omega arith)
two_grains (suc c) h = omega (arith, pow_pos c)

-- what each piece keeps, all together keep
pub lay_keeps : (c : ℕ) (P : Laid → Type 0) → ((w : Laid) → 2 ≤ w.over → P w → P (another c w)) → (i : ℕ) (w : Laid) → P w → P (lay c i w.lists w.left w.over)
unfolding lay
lay_keeps c P f zero w p = p
lay_keeps c P f (suc i) w p = le_case P w.over 1 w _ (λ _. p) (λ h. lay_keeps c P f i (another c w) (f w (omega arith) p))

module _ (c : ℕ) (big : 1 ≤ c) (i : ℕ) (f : Lists) (l : List Block) (n : ℕ) where
  pub lay_ok : (r : List Block) → Sane c (l ⟨⟩ gaps n r) f → let w = lay c i f l n in Sane c (w.left ⟨⟩ gaps w.over r) w.lists
  lay_ok r = lay_keeps c (λ w. Sane c (w.left ⟨⟩ gaps w.over r) w.lists)
      (λ w h o. let m = min w.over (2 ^ c) in
      let e : w.over ≡ m + (w.over - m) = omega arith in
      piece_ok c w.lists w.left (gaps (w.over - m) r) m (omega (arith, two_grains c big)) (omega arith)
      (rw (gaps_add m (w.over - m) r) at (subst (λ j. Sane c (w.left ⟨⟩ gaps j r) w.lists) e o))) i (record { left = l; over = n; lists = f })

  -- every grain is laid or left over
  pub lay_total : let w = lay c i f l n in total w.left + w.over ≡ total l + n
  lay_total = lay_keeps c (λ w. total w.left + w.over ≡ total l + n)
      (λ w h o. omega (arith, two_grains c big)) i (record { left = l; over = n; lists = f }) refl

  -- pieces are no gaps
  pub lay_gap : (y : ℕ) → LeftAt y gap (lay c i f l n).left → LeftAt y gap l
  lay_gap y = lay_keeps c (λ w. LeftAt y gap w.left → LeftAt y gap l)
      (λ w h o. old w.left o) i (record { left = l; over = n; lists = f }) (λ h. h)
    where
      old : {t : ℕ} (k : List Block) → (LeftAt y gap k → LeftAt y gap l) → LeftAt y gap (last ∷ free t ∷ k) → LeftAt y gap l
      old k o (inl h) = absurd (gap_last h.1)
      old k o (inr (inl h)) = absurd (gap_free h.1)
      old k o (inr (inr h)) = o h

  -- what stood before the region stands there still
  pub lay_old : (y : ℕ) (b : Block) → LeftAt y b l → LeftAt y b (lay c i f l n).left
  lay_old y b h = lay_keeps c (λ w. LeftAt y b w.left) (λ w h o. inr (inr o)) i (record { left = l; over = n; lists = f }) h

-- with fuel enough at most one grain is left over
pub lay_over_lem : (c i : ℕ) (f : Lists) (l : List Block) (n : ℕ) → 1 ≤ c → n ≤ suc i → (lay c i f l n).over ≤ 1
unfolding lay
lay_over_lem c zero f l n big h = omega arith
lay_over_lem c (suc i) f l n big h = le_case (λ (w : Laid). w.over ≤ 1) n 1 _ _ (λ k. k)
    (λ k. lay_over_lem c i _ _ (n - min n (2 ^ c)) big (omega (arith, two_grains c big)))

-- and two grains or more are laid
pub lay_some : (c i : ℕ) (f : Lists) (l : List Block) (n : ℕ) → 1 ≤ c → 1 ≤ i → 2 ≤ n → (lay c i f l n).over + 2 ≤ n
unfolding lay
lay_some c zero f l n big p h = absurd (omega arith)
lay_some c (suc i) f l n big p h = le_case (λ (w : Laid). w.over + 2 ≤ n) n 1 _ _ (λ k. absurd (omega arith))
    (λ k. lay_keeps c (λ w. w.over + 2 ≤ n) (λ w _ o. omega arith) i (another c (record { left = l; over = n; lists = f })) (omega (arith, two_grains c big)))

-- ---- the calls

module _ (c : ℕ) (h : Heap) (big : 1 ≤ c) (o : Ok c h) where
  -- wherever the region begins
  insert_kept : (n : ℕ) (l r : List Block) → l ⟨⟩ r ≡ h.blocks → Grown c h (insert_at c h n l r)
  unfolding insert_at
  insert_kept n l r e = le_case (Grown c h) n 1 _ _ (λ _. tt) (λ _. le_case (Grown c h) n (bare r) _ _
      (λ q. let w = lay c n h.lists l n in
      let s = without n r in
      let b : h.blocks ≡ l ⟨⟩ gaps n s = sym e ∙ ap (λ (t : List Block). l ⟨⟩ t) (bare_gaps n r q) in (
        lay_ok c big n h.lists l n s (subst (λ (t : List Block). Sane c t h.lists) b o),
        omega (arith, ap total b, lay_total c big n h.lists l n, total_zip w.left (gaps w.over s), total_zip l (gaps n s), total_gaps n s, total_gaps w.over s),
      ))
      (λ _. tt))

  insert_keeps : (g n : ℕ) → Grown c h (insert c h g n)
  unfolding insert
  insert_keeps g n = let p = find offset g [] h.blocks in insert_kept n p.before p.behind (find_parts offset g [] h.blocks)

  append_keeps : (g n : ℕ) → Grown c h (append c h g n)
  unfolding append append_at
  append_keeps g n = let p = find offset g [] h.blocks in go p.before (find_parts offset g [] h.blocks)
    where
      go : (l : List Block) → l ⟨⟩ (find offset g [] h.blocks).behind ≡ h.blocks → Grown c h (append_at c h n l (find offset g [] h.blocks).behind)
      go [] e = tt
      go (free s ∷ l) e = tt
      go (used s d ∷ l) e = tt
      go (last ∷ l) e = insert_kept n (last ∷ l) (find offset g [] h.blocks).behind e
      go (gap ∷ l) e = tt

  module _ (g n v : ℕ) (k : Heap) where
    pub insert_ok : insert c h g n ≡ granted v k → Ok c k
    insert_ok e = (subst (Grown c h) e (insert_keeps g n)).0

    -- and no grain comes or goes
    pub insert_total : insert c h g n ≡ granted v k → total k.blocks ≡ total h.blocks
    insert_total e = (subst (Grown c h) e (insert_keeps g n)).1

    pub append_ok : append c h g n ≡ granted v k → Ok c k
    append_ok e = (subst (Grown c h) e (append_keeps g n)).0

    pub append_total : append c h g n ≡ granted v k → total k.blocks ≡ total h.blocks
    append_total e = (subst (Grown c h) e (append_keeps g n)).1

-- ---- where a region is granted

-- at a spot
insert_there : (c : ℕ) (h : Heap) (n : ℕ) (l r : List Block) → 2 ≤ n → insert_at c h n l (gaps n r) ≡ laid_out n (lay c n h.lists l n) r
unfolding insert_at
insert_there c h n l r k =
    le_no n 1 _ _ (omega arith) ∙ le_yes n (bare (gaps n r)) _ _ (gaps_bare n r)
    ∙ ap (λ (t : List Block). laid_out n (lay c n h.lists l n) t) (gaps_without n r)

-- and elsewhere
insert_nowhere : (c : ℕ) (h : Heap) (n : ℕ) (l r : List Block) → (2 ≤ n → n ≤ bare r → ⊥) → insert_at c h n l r ≡ refused no_region
unfolding insert_at
insert_nowhere c h n l r k = le_case (λ (a : Answer). a ≡ refused no_region) n 1 _ _ (λ _. refl)
    (λ p. le_no n (bare r) _ _ (λ q. k (omega arith) q))

module _ (c : ℕ) (h : Heap) (g n : ℕ) (o : Ordered out h.blocks) where
  -- granted at a spot, refused where there is none
  pub insert_spot : 2 ≤ n → (p : Spot g n h.blocks) → insert c h g n ≡ laid_out n (lay c n h.lists p.before n) p.rest
  unfolding insert
  insert_spot k p = rw (find_spot g n h.blocks (omega arith) o p) (insert_there c h n p.before p.rest k)

  pub insert_none : (2 ≤ n → Spot g n h.blocks → ⊥) → insert c h g n ≡ refused no_region
  unfolding insert
  insert_none k = let p = find offset g [] h.blocks in
      insert_nowhere c h n p.before p.behind (λ a b. k a (bare_spot g n h.blocks (omega arith) o b))

  -- behind another region only
  pub append_spot : 2 ≤ n → (p : Spot g n h.blocks) (l : List Block) → p.before ≡ last ∷ l
      → append c h g n ≡ laid_out n (lay c n h.lists p.before n) p.rest
  unfolding append append_at
  append_spot k p l e = rw (find_spot g n h.blocks (omega arith) o p, e) (insert_there c h n (last ∷ l) p.rest k)

  pub append_alone : 1 ≤ n → (p : Spot g n h.blocks) → ((l : List Block) → p.before ≡ last ∷ l → ⊥) → append c h g n ≡ refused no_region
  unfolding append append_at
  append_alone k p e = rw (find_spot g n h.blocks k o p) (go p.before e)
    where
      go : (l : List Block) → ((t : List Block) → l ≡ last ∷ t → ⊥) → append_at c h n l (gaps n p.rest) ≡ refused no_region
      go [] e = refl
      go (free s ∷ l) e = refl
      go (used s d ∷ l) e = refl
      go (last ∷ l) e = absurd (e l refl)
      go (gap ∷ l) e = refl

  pub append_none : (2 ≤ n → Spot g n h.blocks → ⊥) → append c h g n ≡ refused no_region
  unfolding append append_at
  append_none k = let p = find offset g [] h.blocks in
      go p.before p.behind (λ a b. k a (bare_spot g n h.blocks (omega arith) o b))
    where
      go : (l r : List Block) → (2 ≤ n → n ≤ bare r → ⊥) → append_at c h n l r ≡ refused no_region
      go [] r e = refl
      go (free s ∷ l) r e = refl
      go (used s d ∷ l) r e = refl
      go (last ∷ l) r e = insert_nowhere c h n (last ∷ l) r e
      go (gap ∷ l) r e = refl
