-- What follows from specs/Gaps.antt.
use Rattle.std.specs.Prelude.{ℕ, zero, suc, ◌+◌, ◌≤◌, ◌<◌, ◌≡◌, refl, List, [], ◌∷◌, ◌⊎◌}
use Rattle.std.proofs.Common.{arith, zero-add, suc-add, add-zero, ap, sym, ◌∙◌, subst, inl, inr, ⊎_elim}
use Rattle.choice.specs.Choice.{eq_case, le?}
use Rattle.definition.specs.Blocks.{Block, free, used, last, gap, size, total, ◌⟨⟩◌, Place, find, offset, gaps, bare, without}
use Rattle.invariants.specs.Order.{Side, out, side_l, Whole, some, Ordered, OrderedL, order_split, BlockAt, LeftAt, at_split, at_join, at_low, left_lt, stands_at}
use Rattle.invariants.proofs.Order.{total_zip, offset_at}
use Rattle.invariants.proofs.Moves.{free_gap}
use Rattle.invariants.specs.Gaps.{total_gaps, Spot}

-- ---- gaps, in front of a list and behind the blocks before

-- some, and some more
pub gaps_add : (n k : ℕ) (r : List Block) → gaps (n + k) r ≡ gaps n (gaps k r)
gaps_add zero k r = rw (zero-add k)
gaps_add (suc n) k r = rw (suc-add n k) (ap (λ (t : List Block). gap ∷ t) (gaps_add n k r))

-- one more behind them, or in front
gaps_more : (n : ℕ) (r : List Block) → gaps n (gap ∷ r) ≡ gap ∷ gaps n r
gaps_more zero r = refl
gaps_more (suc n) r = ap (λ (t : List Block). gap ∷ t) (gaps_more n r)

-- those that stand last before a place stand first behind an earlier one
pub gaps_zip : (n : ℕ) (l r : List Block) → gaps n l ⟨⟩ r ≡ l ⟨⟩ gaps n r
gaps_zip zero l r = refl
gaps_zip (suc n) l r = gaps_zip n l (gap ∷ r) ∙ ap (λ (t : List Block). l ⟨⟩ t) (gaps_more n r)

-- the first gaps of a list, and the rest
pub bare_gaps : (n : ℕ) (r : List Block) → n ≤ bare r → r ≡ gaps n (without n r)
bare_gaps zero r h = refl
bare_gaps (suc n) [] h = absurd (omega arith)
bare_gaps (suc n) (free s ∷ r) h = absurd (omega arith)
bare_gaps (suc n) (used s d ∷ r) h = absurd (omega arith)
bare_gaps (suc n) (last ∷ r) h = absurd (omega arith)
bare_gaps (suc n) (gap ∷ r) h = ap (λ (t : List Block). gap ∷ t) (bare_gaps n r (omega arith))

-- that many stand first
pub gaps_bare : (n : ℕ) (r : List Block) → n ≤ bare (gaps n r)
gaps_bare zero r = omega arith
gaps_bare (suc n) r = omega (arith, gaps_bare n r)

-- and behind them what stood there
pub gaps_without : (n : ℕ) (r : List Block) → without n (gaps n r) ≡ r
gaps_without zero r = refl
gaps_without (suc n) r = gaps_without n r

-- what stands before them
pub gaps_order : (n : ℕ) (l : List Block) → OrderedL (gaps n l) → OrderedL l
gaps_order zero l w = w
gaps_order (suc n) l w = gaps_order n l w.2

-- no free block is among them
pub gaps_free : (n y t : ℕ) (l : List Block) → LeftAt y (free t) (gaps n l) → LeftAt y (free t) l
gaps_free zero y t l h = h
gaps_free (suc n) y t l (inl h) = absurd (free_gap h.1)
gaps_free (suc n) y t l (inr h) = gaps_free n y t l h

-- and none before them is lost
pub free_gaps : (n y t : ℕ) (l : List Block) → LeftAt y (free t) l → LeftAt y (free t) (gaps n l)
free_gaps zero y t l h = h
free_gaps (suc n) y t l h = inr (free_gaps n y t l h)

-- ---- where they stand

-- a gap is no other block
pub gap_free : {s : ℕ} → free s ≡ gap → ⊥
gap_free e = let z : ◌≡◌ {A = ℕ} 0 1 = cc in omega arith

pub gap_used : {s d : ℕ} → used s d ≡ gap → ⊥
gap_used e = let z : ◌≡◌ {A = ℕ} 0 1 = cc in omega arith

pub gap_last : last ≡ gap → ⊥
gap_last e = let z : ◌≡◌ {A = ℕ} 0 1 = cc in omega arith

-- one at each of their grains
pub gaps_at : (n y x : ℕ) (r : List Block) → x ≤ y → y < x + n → BlockAt y gap x (gaps n r)
gaps_at zero y x r a b = absurd (omega arith)
gaps_at (suc n) y x r a b = ⊎_elim (λ (e : y ≤ x). inl (omega arith, refl)) (λ (e : x < y). inr (gaps_at n y (x + 1) r (omega arith) (omega arith))) (le? y x)

-- what stands behind them
pub gaps_behind : (n y x : ℕ) (b : Block) (r : List Block) → BlockAt y b (x + n) r → BlockAt y b x (gaps n r)
gaps_behind zero y x b r h = rw (add-zero x) at h
gaps_behind (suc n) y x b r h =
    let e : x + suc n ≡ x + 1 + n = omega arith in
    inr (gaps_behind n y (x + 1) b r (rw e at h))

-- nothing else stands there
pub gaps_cases : (n y x : ℕ) (b : Block) (r : List Block) → BlockAt y b x (gaps n r) → ((x ≤ y) × (y < x + n) × (gap ≡ b)) ⊎ BlockAt y b (x + n) r
gaps_cases zero y x b r h = inr (rw (add-zero x) h)
gaps_cases (suc n) y x b r (inl h) = inl (omega (arith, h.0), omega (arith, h.0), h.1)
gaps_cases (suc n) y x b r (inr h) =
    let e : x + 1 + n ≡ x + suc n = omega arith in
    ⊎_elim
    (λ (i : (x + 1 ≤ y) × (y < x + 1 + n) × (gap ≡ b)). inl (omega (arith, i.0), omega (arith, i.1), i.2))
    (λ (i : BlockAt y b (x + 1 + n) r). inr (rw e at i)) (gaps_cases n y (x + 1) b r h)

-- the block where a gap stands is one
gap_first : (x : ℕ) (b : Block) (r : List Block) → Whole b → BlockAt x gap x (b ∷ r) → b ≡ gap
gap_first x b r w (inl h) = h.1
gap_first x b r w (inr h) = absurd (omega (arith, some b w, at_low x gap (x + size b) r h))

-- a gap further on stands behind the first
gap_next : (y x : ℕ) (r : List Block) → x < y → BlockAt y gap x (gap ∷ r) → BlockAt y gap (x + 1) r
gap_next y x r p (inl h) = absurd (omega (arith, h.0))
gap_next y x r p (inr h) = h

-- where each grain is a gap
bare_all : (n x : ℕ) (a : Side) (r : List Block) → Ordered a r → ((y : ℕ) → x ≤ y → y < x + n → BlockAt y gap x r) → n ≤ bare r
bare_all zero x a r o h = omega arith
bare_all (suc n) x a [] o h = absurd (h x (omega arith) (omega arith))
bare_all (suc n) x a (free s ∷ r) o h = absurd (gap_free (gap_first x (free s) r o.1 (h x (omega arith) (omega arith))))
bare_all (suc n) x a (used s d ∷ r) o h = absurd (gap_used (gap_first x (used s d) r o.1 (h x (omega arith) (omega arith))))
bare_all (suc n) x a (last ∷ r) o h = absurd (gap_last (gap_first x last r o.1 (h x (omega arith) (omega arith))))
bare_all (suc n) x a (gap ∷ r) o h =
    omega (arith, bare_all n (x + 1) out r o.2 (λ y p q. gap_next y x r (omega arith) (h y (omega arith) (omega arith))))

-- ---- going there

-- where a block is looked for, the list falls in two parts
pub find_parts : (key : ℕ → Block → ℕ) (v : ℕ) (l r : List Block) → let p = find key v l r in p.before ⟨⟩ p.behind ≡ l ⟨⟩ r
unfolding find
find_parts key v l [] = refl
find_parts key v l (b ∷ r) = eq_case (λ (p : Place). p.before ⟨⟩ p.behind ≡ l ⟨⟩ b ∷ r) (key (total l) b) v _ _ (λ _. refl) (λ _. find_parts key v (b ∷ l) r)

-- a block stands there, or none
pub find_offset : (g : ℕ) (l r : List Block) → let p = find offset g l r in (p.behind ≡ []) ⊎ (total p.before ≡ g)
unfolding find
find_offset g l [] = inl refl
find_offset g l (b ∷ r) = eq_case (λ (p : Place). (p.behind ≡ []) ⊎ (total p.before ≡ g)) (total l) g _ _ (λ e. inr e) (λ _. find_offset g (b ∷ l) r)

module _ (g n : ℕ) (xs : List Block) (some : 1 ≤ n) (o : Ordered out xs) where
  -- the spot is found
  pub find_spot : (p : Spot g n xs) → find offset g [] xs ≡ record { before = p.before; behind = gaps n p.rest }
  find_spot p = rw (p.whole, ← p.place) (go n some (order_split p.before (gaps n p.rest) (rw p.whole at o)).0)
    where
      go : (n : ℕ) → 1 ≤ n → OrderedL p.before → find offset (total p.before) [] (p.before ⟨⟩ gaps n p.rest) ≡ record { before = p.before; behind = gaps n p.rest }
      go zero s w = absurd (omega arith)
      go (suc n) s w = offset_at p.before (gaps n p.rest) gap w

  -- where that many gaps are found there is one
  pub bare_spot : n ≤ bare (find offset g [] xs).behind → Spot g n xs
  bare_spot h = ⊎_elim
      (λ (e : (find offset g [] xs).behind ≡ []). absurd (omega (arith, some, subst (λ (r : List Block). n ≤ bare r) e h)))
      (λ (e : total (find offset g [] xs).before ≡ g). record {
        before = (find offset g [] xs).before;
        rest = without n (find offset g [] xs).behind;
        whole = sym (find_parts offset g [] xs) ∙ ap (λ (t : List Block). (find offset g [] xs).before ⟨⟩ t) (bare_gaps n (find offset g [] xs).behind h);
        place = e;
      })
      (find_offset g [] xs)

  -- so where each grain is a gap
  pub gaps_spot : ((y : ℕ) → g ≤ y → y < g + n → BlockAt y gap 0 xs) → Spot g n xs
  gaps_spot h =
      let s = stands_at g gap xs (h g (omega arith) (omega arith)) in
      let e = s.whole in
      let i = order_split s.before (gap ∷ s.behind) (rw s.whole at o) in
      let b : n ≤ bare (gap ∷ s.behind) = bare_all n (total s.before) (side_l s.before) (gap ∷ s.behind) i.1
      (λ y p q. ⊎_elim
      (λ (k : LeftAt y gap s.before). absurd (omega (arith, left_lt y gap s.before i.0 k)))
      (λ (k : BlockAt y gap (total s.before) (gap ∷ s.behind)). k)
      (at_split y gap s.before (gap ∷ s.behind) (subst (λ (t : List Block). BlockAt y gap 0 t) s.whole (h y (omega (arith, s.place)) (omega (arith, s.place)))))) in
      record {
        before = s.before;
        rest = without n (gap ∷ s.behind);
        whole = s.whole ∙ ap (λ (t : List Block). s.before ⟨⟩ t) (bare_gaps n (gap ∷ s.behind) b);
        place = sym s.place;
      }

-- each of its grains is a gap
pub spot_gap : (g n : ℕ) (xs : List Block) (p : Spot g n xs) (y : ℕ) → g ≤ y → y < g + n → BlockAt y gap 0 xs
spot_gap g n xs p y a b = rw p.whole (at_join y gap p.before (gaps n p.rest) (inr (gaps_at n y (total p.before) p.rest (omega (arith, p.place)) (omega (arith, p.place)))))

-- it lies inside the arena
pub spot_inside : (g n : ℕ) (xs : List Block) → Spot g n xs → g + n ≤ total xs
spot_inside g n xs p = omega (arith, p.place, ap total p.whole, total_zip p.before (gaps n p.rest), total_gaps n p.rest)
