-- What a size word tells of a block, as the code answers it: the grains of a free block, of a used one, or none; and the
-- tests by which the code finds out.
use Rattle.std.specs.Prelude.{ℕ, ◌+◌, ◌-◌, ◌*◌, ◌/◌, ◌%◌, ◌≤◌, ◌<◌, ◌≡◌, refl, Bool, true, false, eqb, length, List, Option, None, Some, is_some}
use native.Mathlib.Omega.{arith}
use Rattle.std.proofs.Math.Path.{ap}
use Rattle.std.proofs.Common.{sym, ◌∙◌, subst, true≢false, eq-eqb, ne_eqb, ⊎_elim}
use Rattle.choice.specs.Choice.{if_eq, eq_yes, eq_no, le_yes, eq_case, le_case, same?}
use Rattle.choice.specs.Says.{Says}
use Rattle.word.specs.Word.{word_at}
use Rattle.script.specs.Memory.{none, free_word, used_word}
use Rattle.sound.specs.Checks.{Word, is_free, is_used, is_last, is_bad, word_of}
use Rattle.sound.proofs.Seen.{word_free, word_used, word_last}
use Rattle.slices.specs.Decode.{size_of, link_of, wrong_size, grains, top_of}
use Rattle.slices.specs.Arena.{size_at, link_at}
use Rattle.slices.proofs.Arena.{size_in, link_in}
use Rattle.header.specs.Turned.{turned, turned_in, turned_out, grains_few}

abbrev pub free_of : Word → Option ℕ
free_of (is_free s) = Some s
free_of (is_used s) = None
free_of is_last = None
free_of is_bad = None

abbrev pub used_of : Word → Option ℕ
used_of (is_free s) = None
used_of (is_used s) = Some s
used_of is_last = None
used_of is_bad = None

abbrev pub busy_of : Word → Bool
busy_of (is_free s) = false
busy_of (is_used s) = true
busy_of is_last = true
busy_of is_bad = false

-- ---- a comparison

-- P holds where two words are the same, and only there
pub says_eqb : (P : Type 0) (v w : ℕ) → (v ≡ w → P) → ((v ≡ w → ⊥) → P → ⊥) → Says P (eqb v w)
says_eqb P v w f g = ⊎_elim
    (λ (h : v ≡ w). subst (Says P) (sym (eq-eqb v w h)) (f h))
    (λ (h : v ≡ w → ⊥). subst (Says P) (sym (ne_eqb v w h)) (g h))
    (same? v w)

-- ---- a word v at grain g of an arena of n

wrong_is : word_of wrong_size ≡ is_bad
unfolding word_of
wrong_is = refl

module _ (n g v : ℕ) where
  -- the word of s grains with the flag r, inside the arena
  size_of_lem : (s : ℕ) → v / 32 ≡ s → (v ≡ 35 → ⊥) → 1 ≤ s → g + s + 1 ≤ n → size_of 32 n g v ≡ if_eq (v % 32) 0 (free_word s) (if_eq (v % 32) 1 (used_word s) wrong_size)
  unfolding size_of
  size_of_lem s e l p h = eq_no v 35 _ _ l ∙ rw e (eq_no s 0 _ _ (λ q. omega arith) ∙ le_yes (g + s + 1) n _ _ h)

  -- a free block
  pub told_free : g < n → n < 576460752303423488 → (v ≡ 0 → ⊥) → turned v < n - g → word_of (size_of 32 n g v) ≡ is_free (turned v)
  told_free i f z h =
      let t = turned_in n v f (omega arith) in
      let l : v ≡ 35 → ⊥ = λ e. omega (arith, t.0) in
      let p : 1 ≤ turned v = omega (arith, t) in
      ap word_of (size_of_lem (turned v) (sym t.1) l p (omega arith) ∙ eq_yes (v % 32) 0 _ _ t.0) ∙ word_free (turned v) p

  -- no free block
  pub not_free : g < n → n - g ≤ turned v → free_of (word_of (size_of 32 n g v)) ≡ None
  unfolding size_of
  not_free i h =
      eq_case (λ (x : ℕ). free_of (word_of x) ≡ None) v 35 _ _ (λ _. rw word_last refl) λ _.
      eq_case (λ (x : ℕ). free_of (word_of x) ≡ None) (v / 32) 0 _ _ (λ _. rw wrong_is refl) λ z.
      le_case (λ (x : ℕ). free_of (word_of x) ≡ None) (g + v / 32 + 1) n _ _
      (λ q. eq_case (λ (x : ℕ). free_of (word_of x) ≡ None) (v % 32) 0 _ _
      (λ e. absurd (omega (arith, turned_out (n - g) v h e)))
      (λ _. eq_case (λ (x : ℕ). free_of (word_of x) ≡ None) (v % 32) 1 _ _ (λ _. rw (word_used (v / 32) (omega (arith, z))) refl) (λ _. rw wrong_is refl)))
      (λ _. rw wrong_is refl)

  -- less than a grain
  pub told_none : v < 32 → word_of (size_of 32 n g v) ≡ is_bad
  unfolding size_of
  told_none h =
      let a : v / 32 ≡ 0 = omega arith in
      ap word_of (eq_no v 35 _ _ (λ q. omega arith) ∙ eq_yes (v / 32) 0 _ _ a) ∙ wrong_is

  -- a used block
  pub told_used : g < n → n < 576460752303423488 → 1 < v → turned (v - 1) < n - g → used_of (word_of (size_of 32 n g v)) ≡ Some (turned (v - 1))
  told_used i f z h =
      let t = turned_in n (v - 1) f (omega arith) in
      let e : v / 32 ≡ turned (v - 1) = omega (arith, t) in
      let r : v % 32 ≡ 1 = omega (arith, t) in
      let l : v ≡ 35 → ⊥ = λ q. omega arith in
      let s : 1 ≤ turned (v - 1) = omega (arith, t) in
      ap (λ (x : ℕ). used_of (word_of x)) (size_of_lem (turned (v - 1)) e l s (omega arith) ∙ eq_no (v % 32) 0 _ _ (λ q. omega arith) ∙ eq_yes (v % 32) 1 _ _ r)
      ∙ ap used_of (word_used (turned (v - 1)) s)

  -- no used block
  pub not_used : g < n → 1 < v → n - g ≤ turned (v - 1) → used_of (word_of (size_of 32 n g v)) ≡ None
  unfolding size_of
  not_used i nz h =
      eq_case (λ (x : ℕ). used_of (word_of x) ≡ None) v 35 _ _ (λ _. rw word_last refl) λ _.
      eq_case (λ (x : ℕ). used_of (word_of x) ≡ None) (v / 32) 0 _ _ (λ _. rw wrong_is refl) λ z.
      le_case (λ (x : ℕ). used_of (word_of x) ≡ None) (g + v / 32 + 1) n _ _
      (λ q. eq_case (λ (x : ℕ). used_of (word_of x) ≡ None) (v % 32) 0 _ _
      (λ _. rw (word_free (v / 32) (omega (arith, z))) refl)
      (λ _. eq_case (λ (x : ℕ). used_of (word_of x) ≡ None) (v % 32) 1 _ _
      (λ e. absurd (omega (arith, turned_out (n - g) (v - 1) h (omega arith))))
      (λ _. rw wrong_is refl)))
      (λ _. rw wrong_is refl)

-- ---- a link

module _ (n v y : ℕ) (i : y < n) (f : n < 576460752303423488) where
  -- the word of a grain leads there, and no other word does
  pub link_leads : v ≡ 32 * y → link_of 32 n (top_of 8) v ≡ y
  unfolding link_of
  link_leads e =
      let q : v / 32 ≡ y = omega arith in
      let r : v % 32 ≡ 0 = omega arith in
      eq_no v (top_of 8) _ _ (λ t. omega arith) ∙ eq_yes (v % 32) 0 _ _ r ∙ le_yes (v / 32 + 1) n _ _ (omega arith) ∙ q

  pub link_only : (v ≡ 32 * y → ⊥) → link_of 32 n (top_of 8) v ≡ y → ⊥
  unfolding link_of none
  link_only ne = eq_case (λ (x : ℕ). x ≡ y → ⊥) v (top_of 8) _ _ (λ _ q. omega arith) λ _.
      eq_case (λ (x : ℕ). x ≡ y → ⊥) (v % 32) 0 _ _
      (λ r. le_case (λ (x : ℕ). x ≡ y → ⊥) (v / 32 + 1) n _ _ (λ _ q. ne (omega arith)) (λ _ q. omega arith))
      (λ _ q. omega arith)

-- ---- the same of an arena

module _ (a : List ℕ) (g v : ℕ) (i : g < grains 8 a) (e : v ≡ word_at 8 a (4 * g + 0)) where
  pub size_word : size_at 8 a g ≡ size_of 32 (grains 8 a) g v
  size_word =
      let z : 4 * g + 0 ≡ 4 * g = omega arith in
      size_in 8 a g i ∙ ap (size_of 32 (grains 8 a) g) (sym (e ∙ ap (word_at 8 a) z))

  -- what a test of the size word tells
  pub says : {A : Type 0} (f : Word → A) {r : A} → f (word_of (size_of 32 (grains 8 a) g v)) ≡ r → r ≡ f (word_of (size_at 8 a g))
  says f h = sym (ap (λ (x : ℕ). f (word_of x)) size_word ∙ h)

pub last_told : (n g v : ℕ) → v ≡ 35 → word_of (size_of 32 n g v) ≡ is_last
unfolding size_of
last_told n g v e = ap word_of (eq_yes v 35 _ _ e) ∙ word_last

-- only the sentinel's word says a sentinel
not_last : (n g v : ℕ) → (v ≡ 35 → ⊥) → word_of (size_of 32 n g v) ≡ is_last → ⊥
unfolding size_of
not_last n g v l =
    eq_case (λ (x : ℕ). word_of x ≡ is_last → ⊥) v 35 _ _ (λ e. absurd (l e)) λ _.
    eq_case (λ (x : ℕ). word_of x ≡ is_last → ⊥) (v / 32) 0 _ _ (λ _. bad) λ z.
    le_case (λ (x : ℕ). word_of x ≡ is_last → ⊥) (g + v / 32 + 1) n _ _
    (λ _. eq_case (λ (x : ℕ). word_of x ≡ is_last → ⊥) (v % 32) 0 _ _
    (λ _ q. let h : is_free (v / 32) ≡ is_last = sym (word_free (v / 32) (omega (arith, z))) ∙ q in let c : ◌≡◌ {A = ℕ} 0 1 = cc in omega arith)
    (λ _. eq_case (λ (x : ℕ). word_of x ≡ is_last → ⊥) (v % 32) 1 _ _
    (λ _ q. let h : is_used (v / 32) ≡ is_last = sym (word_used (v / 32) (omega (arith, z))) ∙ q in let c : ◌≡◌ {A = ℕ} 0 1 = cc in omega arith) (λ _. bad)))
    (λ _. bad)
  where
    bad : word_of wrong_size ≡ is_last → ⊥
    bad q = let h : is_bad ≡ is_last = sym wrong_is ∙ q in let c : ◌≡◌ {A = ℕ} 0 1 = cc in omega arith

-- what is not used and no sentinel is not busy
busy_not : (n g v : ℕ) → (v ≡ 35 → ⊥) → used_of (word_of (size_of 32 n g v)) ≡ None → busy_of (word_of (size_of 32 n g v)) ≡ false
busy_not n g v l e = go (word_of (size_of 32 n g v)) refl e
  where
    go : (w : Word) → word_of (size_of 32 n g v) ≡ w → used_of w ≡ None → busy_of w ≡ false
    go (is_free s) q h = refl
    go (is_used s) q h = absurd (true≢false (ap is_some h))
    go is_last q h = absurd (not_last n g v l q)
    go is_bad q h = refl

-- and where there is none, the sentinel alone
module _ (a : List ℕ) (g v : ℕ) (i : g < grains 8 a) (e : v ≡ word_at 8 a (4 * g + 0)) (u : Option ℕ) (q : u ≡ used_of (word_of (size_at 8 a g))) (z : is_some u ≡ false) where
  unused_word : used_of (word_of (size_of 32 (grains 8 a) g v)) ≡ None
  unused_word = sym (q ∙ ap (λ (x : ℕ). used_of (word_of x)) (size_word a g v i e)) ∙ nothing u z
    where
      nothing : (u : Option ℕ) → is_some u ≡ false → u ≡ None
      nothing None h = refl
      nothing (Some x) h = absurd (true≢false h)

  pub busy_last : eqb v 35 ≡ busy_of (word_of (size_at 8 a g))
  busy_last = ⊎_elim
      (λ (h : v ≡ 35). eq-eqb v 35 h ∙ says a g v i e busy_of (ap busy_of (last_told (grains 8 a) g v h)))
      (λ (h : v ≡ 35 → ⊥). ne_eqb v 35 h ∙ says a g v i e busy_of (busy_not (grains 8 a) g v h unused_word))
      (same? v 35)

-- ---- the links of an arena

-- the word v is the link f of grain g, which leads to y or doesn't
module _ (a : List ℕ) (g f v y out : ℕ) (i : g < grains 8 a) (j : y < grains 8 a) (l : length a < 18446744073709551616) (e : v ≡ word_at 8 a (4 * g + f)) where
  link_word_lem : link_at 8 a f out g ≡ link_of 32 (grains 8 a) (top_of 8) v
  link_word_lem = link_in 8 a g f out i ∙ ap (link_of 32 (grains 8 a) (top_of 8)) (sym e)

  pub leads_yes : v ≡ 32 * y → link_at 8 a f out g ≡ y
  leads_yes h = link_word_lem ∙ link_leads (grains 8 a) v y j (grains_few a l) h

  pub leads_no : (v ≡ 32 * y → ⊥) → link_at 8 a f out g ≡ y → ⊥
  leads_no h q = link_only (grains 8 a) v y j (grains_few a l) h (sym link_word_lem ∙ q)
