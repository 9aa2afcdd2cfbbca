-- The tags determine the blocks: two lists of blocks with the same tags are the same list.
use Rattle.std.specs.Prelude.{ℕ, suc, ◌+◌, ◌-◌, ◌/◌, ◌%◌, ◌≤◌, ◌<◌, ◌≡◌, refl, List, [], ◌∷◌, ◌⊎◌}
use Rattle.std.proofs.Common.{arith, ap, sym, ◌∙◌, subst, inl, inr, ⊎_elim}
use Rattle.choice.specs.Choice.{eq_yes, eq_no, eq_case, same?}
use Rattle.definition.specs.Blocks.{Block, free, used, last, gap, size, total}
use Rattle.invariants.specs.Order.{Side, side, Whole, Inside, Ordered, some}
use Rattle.tags.specs.Tag.{flags, START, FREE, SMALL, LARGE, free_tag, start_tag, pad_tag, first_tag, tag_in, Tagged}

-- ---- the first tag of a block

abbrev first_of : Block → ℕ
first_of (free s) = free_tag s
first_of (used s d) = first_tag s d
first_of last = start_tag 1
first_of gap = 0

first_is : (b : Block) → tag_in b 0 ≡ first_of b
first_is (free s) = eq_yes 0 0 _ _ refl
first_is (used s d) = eq_yes 0 0 _ _ refl
first_is last = refl
first_is gap = refl

-- the flags v of a used block's first tag tell how much padding there is
abbrev Kind : ℕ → ℕ → Type 0
Kind d v = ((v ≡ START + SMALL) × (d ≡ 1)) ⊎ (((v ≡ START + LARGE) × (d ≡ 2)) ⊎ ((v ≡ START) × (d ≡ 1 → ⊥) × (d ≡ 2 → ⊥)))

-- and its count tells its size
record First (s d v : ℕ) : Type 0 where
  size : v / flags ≡ s
  kind : Kind d (v % flags)

first : (s d : ℕ) → First s d (first_tag s d)
first s d = eq_case (First s d) d 1 _ _
    (λ e. record { size = omega arith; kind = inl (omega arith, e) })
    (λ n. eq_case (First s d) d 2 _ _
    (λ e. record { size = omega arith; kind = inr (inl (omega arith, e)) })
    (λ k. record { size = omega arith; kind = inr (inr (omega arith, n, k)) }))

-- a used block's first tag is no other block's
used_own : (s d : ℕ) → (1 ≤ s) × Inside s d → (first_tag s d % flags ≡ START + FREE → ⊥) × (first_tag s d ≡ start_tag 1 → ⊥) × (first_tag s d ≡ 0 → ⊥)
used_own s d w = let f = first s d in go (first_tag s d) f f.kind
  where
    go : (v : ℕ) → First s d v → Kind d (v % flags) → (v % flags ≡ START + FREE → ⊥) × (v ≡ start_tag 1 → ⊥) × (v ≡ 0 → ⊥)
    go v f (inl k) = (omega (arith, k.0), omega (arith, k.0), omega (arith, k.0))
    go v f (inr (inl k)) = (omega (arith, k.0), omega (arith, k.0), omega (arith, k.0))
    go v f (inr (inr k)) = (omega (arith, k.0), wide, omega (arith, k.0))
      where
        wide : v ≡ start_tag 1 → ⊥
        wide e = ⊎_elim (λ (q : d ≡ 1). k.1 q) (λ (q : d % 2 ≡ 0). let z : s ≡ 1 = sym f.size ∙ omega arith in omega (arith, w.1.within, w.1.some, k.2)) w.1.kind

-- ---- one block

-- two used blocks of the same size with the same tags have their payloads at the same place
same_place : (s d e : ℕ) → Inside s d → Inside s e → ((i : ℕ) → i < s → tag_in (used s d) i ≡ tag_in (used s e) i) → 1 ≤ s → d ≡ e
same_place s d e w v h p = let f = first s d in let g = first s e in go f.kind g.kind
  where
    eq : first_tag s d ≡ first_tag s e
    eq = sym (eq_yes 0 0 (first_tag s d) _ refl) ∙ h 0 (omega arith) ∙ eq_yes 0 0 (first_tag s e) _ refl

    even : (d : ℕ) → Inside s d → (d ≡ 1 → ⊥) → d % 2 ≡ 0
    even d w n = ⊎_elim (λ (q : d ≡ 1). absurd (n q)) (λ (q : d % 2 ≡ 0). q) w.kind

    far : (d ≡ 1 → ⊥) → (d ≡ 2 → ⊥) → (e ≡ 1 → ⊥) → d ≡ e
    far a b c =
        let x : d % 2 ≡ 0 = even d w a in
        let y : e % 2 ≡ 0 = even e v c in
        let j : 2 ≤ d / 2 = omega (arith, w.some, a, b) in
        let l = h (d / 2 - 1) (omega (arith, w.within)) in
        let t : tag_in (used s d) (d / 2 - 1) ≡ pad_tag (d / 2) = eq_no (d / 2 - 1) 0 _ _ (omega arith) ∙ eq_yes (suc (d / 2 - 1)) (d / 2) _ _ (omega arith) in
        ⊎_elim
        (λ (q : suc (d / 2 - 1) ≡ e / 2). omega arith)
        (λ (q : suc (d / 2 - 1) ≡ e / 2 → ⊥).
        let u : tag_in (used s e) (d / 2 - 1) ≡ 0 = eq_no (d / 2 - 1) 0 _ _ (omega arith) ∙ eq_no (suc (d / 2 - 1)) (e / 2) _ _ q in
        let z : pad_tag (d / 2) ≡ 0 = sym t ∙ l ∙ u in absurd (omega arith))
        (same? (suc (d / 2 - 1)) (e / 2))

    go : Kind d (first_tag s d % flags) → Kind e (first_tag s e % flags) → d ≡ e
    go (inl a) (inl b) = a.1 ∙ sym b.1
    go (inl a) (inr (inl b)) = absurd (omega (arith, eq, a.0, b.0))
    go (inl a) (inr (inr b)) = absurd (omega (arith, eq, a.0, b.0))
    go (inr (inl a)) (inl b) = absurd (omega (arith, eq, a.0, b.0))
    go (inr (inl a)) (inr (inl b)) = a.1 ∙ sym b.1
    go (inr (inl a)) (inr (inr b)) = absurd (omega (arith, eq, a.0, b.0))
    go (inr (inr a)) (inl b) = absurd (omega (arith, eq, a.0, b.0))
    go (inr (inr a)) (inr (inl b)) = absurd (omega (arith, eq, a.0, b.0))
    go (inr (inr a)) (inr (inr b)) = far a.1 a.2 b.1

same_block : (b d : Block) → Whole b → Whole d → ((i : ℕ) → i < size b → i < size d → tag_in b i ≡ tag_in d i) → b ≡ d
same_block b d w v h = go b d w v h (sym (first_is b) ∙ h 0 (some b w) (some d v) ∙ first_is d)
  where
    go : (b d : Block) → Whole b → Whole d → ((i : ℕ) → i < size b → i < size d → tag_in b i ≡ tag_in d i) → first_of b ≡ first_of d → b ≡ d
    go (free s) (free t) w v h e = ap free (omega arith)
    go (free s) (used t x) w v h e = absurd ((used_own t x v).0 (ap (λ (u : ℕ). u % flags) (sym e) ∙ omega arith))
    go (free s) last w v h e = absurd (omega arith)
    go (free s) gap w v h e = absurd (omega arith)
    go (used t x) (free s) w v h e = absurd ((used_own t x w).0 (ap (λ (u : ℕ). u % flags) e ∙ omega arith))
    go (used s x) (used t y) w v h e =
        let q : s ≡ t = sym (first s x).size ∙ ap (λ (u : ℕ). u / flags) e ∙ (first t y).size in
        let z : Inside s y = subst (λ (u : ℕ). Inside u y) (sym q) v.1 in
        let k : (i : ℕ) → i < s → tag_in (used s x) i ≡ tag_in (used s y) i = λ i a. h i a (omega arith) ∙ other i t s (sym q) in
        ap (λ (u : ℕ). used u x) q ∙ ap (used t) (same_place s x y w.1 z k w.0)
      where
        other : (i t s : ℕ) → t ≡ s → tag_in (used t y) i ≡ tag_in (used s y) i
        other i t s e = ap (λ (u : ℕ). tag_in (used u y) i) e
    go (used s x) last w v h e = absurd ((used_own s x w).1 e)
    go (used s x) gap w v h e = absurd ((used_own s x w).2 e)
    go last (free s) w v h e = absurd (omega arith)
    go last (used s x) w v h e = absurd ((used_own s x v).1 (sym e))
    go last last w v h e = refl
    go last gap w v h e = absurd (omega arith)
    go gap (free s) w v h e = absurd (omega arith)
    go gap (used s x) w v h e = absurd ((used_own s x v).2 (sym e))
    go gap last w v h e = absurd (omega arith)
    go gap gap w v h e = refl

-- ---- all blocks

pub tagged_unique : (t : ℕ → ℕ) (x : ℕ) (a d : Side) (xs ys : List Block) → Ordered a xs → Ordered d ys → total xs ≡ total ys → Tagged t x xs → Tagged t x ys → xs ≡ ys
tagged_unique t x a d [] [] o v e h k = refl
tagged_unique t x a d [] (c ∷ ys) o v e h k = absurd (omega (arith, some c v.1))
tagged_unique t x a d (b ∷ xs) [] o v e h k = absurd (omega (arith, some b o.1))
tagged_unique t x a d (b ∷ xs) (c ∷ ys) o v e h k =
    let q : b ≡ c = same_block b c o.1 v.1 (λ i m n. sym (h.0 i m) ∙ k.0 i n) in
    let z : size b ≡ size c = ap size q in
    let r : xs ≡ ys = tagged_unique t (x + size b) (side b) (side c) xs ys o.2 v.2 (omega arith) h.1 (subst (λ (u : ℕ). Tagged t (x + u) ys) (sym z) k.1) in
    ap (λ (u : Block). u ∷ xs) q ∙ ap (λ (l : List Block). c ∷ l) r
