-- What follows from specs/Decode.antt.
use Rattle.std.specs.Prelude.{ℕ, ◌+◌, ◌-◌, ◌*◌, ◌/◌, ◌%◌, ◌^◌, ◌≤◌, ◌<◌, ◌≡◌, refl, List, length}
use Rattle.std.proofs.Math.Nat.{mul-add-div, mul-add-mod_self_left, mul-mod_right, mul-div_right, div-eq_of_lt, mul-div-le}
use Rattle.std.proofs.Common.{mod-eq_of_lt, mul-le-mul_left, mul-add, mul-one, div-le_self, arith, sym, ap, ◌∙◌, subst, inl, inr}
use Rattle.choice.specs.Choice.{if_eq, if_le, eq_yes, eq_no, le_yes, eq_case, le_case}
use Rattle.script.specs.Memory.{none, free_word, used_word, last_word}
use Rattle.sound.specs.Checks.{is_used, word_of}
use Rattle.sound.proofs.Seen.{word_free, word_used, word_last}
use Rattle.slices.specs.Decode.{wrong_size, size_of, link_of, size_word, link_word, ValidSize, valid_free, valid_used, valid_last, ValidLink, Inside, grains, top_of, Wide}

-- ---- what is stored is read again

-- the words of free and used blocks, and of the sentinel
pub free_stored : (u s : ℕ) → size_word u (free_word s) ≡ u * s
unfolding size_word
free_stored u s =
    let a : 4 * s / 4 ≡ s = omega arith in
    let b : 4 * s % 4 ≡ 0 = omega arith in
    rw (a, b) (omega arith)

pub used_stored : (u s : ℕ) → size_word u (used_word s) ≡ u * s + 1
unfolding size_word
used_stored u s =
    let a : (4 * s + 1) / 4 ≡ s = omega arith in
    let b : (4 * s + 1) % 4 ≡ 1 = omega arith in
    rw (a, b)

pub last_stored : (u : ℕ) → size_word u last_word ≡ u + 3
unfolding size_word
last_stored u = omega arith

-- s grains with the flag r
module _ (u n g s r : ℕ) (h : 4 ≤ u) (k : r < 2) where
  whole_of : (u * s + r) / u ≡ s
  whole_of = mul-add-div (omega arith) s r ∙ omega (arith, div-eq_of_lt {n = r} {m = u} (omega arith))

  flag_of : (u * s + r) % u ≡ r
  flag_of = mul-add-mod_self_left u s r ∙ mod-eq_of_lt (omega arith)

  -- only the sentinel's word leaves 3
  not_last : u * s + r ≡ u + 3 → ⊥
  not_last q =
      let a : (u * 1 + 3) % u ≡ 3 = mul-add-mod_self_left u 1 3 ∙ mod-eq_of_lt (omega arith) in
      let b : u * 1 + 3 ≡ u * s + r = omega arith in
      let c : (u * s + r) % u ≡ 3 = rw b at a in
      omega (arith, flag_of)

  -- any other is read by its flag
  size_read : 1 ≤ s → g + s + 1 ≤ n → size_of u n g (u * s + r) ≡ if_eq r 0 (free_word s) (if_eq r 1 (used_word s) wrong_size)
  unfolding size_of
  size_read a b =
      eq_no (u * s + r) (u + 3) _ _ not_last ∙ rw (whole_of, flag_of) (eq_no s 0 _ _ (λ e. omega arith) ∙ le_yes (g + s + 1) n _ _ b)

-- a size that is stored is read again
pub size_back : (u n g v : ℕ) → 4 ≤ u → ValidSize n g v → size_of u n g (size_word u v) ≡ v
unfolding size_of
size_back u n g v h (valid_free s a b) =
    let e : u * s + 0 ≡ u * s = omega arith in
    let z : size_of u n g (u * s + 0) ≡ free_word s = size_read u n g s 0 h (omega arith) a b ∙ eq_yes 0 0 _ _ refl in
    ap (size_of u n g) (free_stored u s ∙ sym e) ∙ z
size_back u n g v h (valid_used s a b) =
    ap (size_of u n g) (used_stored u s) ∙ size_read u n g s 1 h (omega arith) a b
    ∙ eq_no 1 0 _ _ (λ e. omega arith) ∙ eq_yes 1 1 _ _ refl
size_back u n g v h valid_last = ap (size_of u n g) (last_stored u) ∙ eq_yes (u + 3) (u + 3) _ _ refl

-- and so is a link: top is behind the arena, so no grain is taken for none
pub link_back : (u n top v : ℕ) → 1 ≤ u → u * n ≤ top → n ≤ none → ValidLink n v → link_of u n top (link_word u top v) ≡ v
unfolding link_of link_word
link_back u n top v h b m (inl e) = ap (link_of u n top) (eq_yes v none _ _ e) ∙ eq_yes top top _ _ refl ∙ sym e
link_back u n top v h b m (inr f) =
    let l = mul-le-mul_left {m = v + 1} {n = n} u (omega arith) in
    ap (link_of u n top) (eq_no v none _ _ (λ e. omega arith))
    ∙ eq_no (u * v) top _ _ (λ e. omega (arith, l, mul-add u v 1, mul-one u))
    ∙ rw (mul-mod_right u v, mul-div_right v {m = u} (omega arith)) (eq_yes 0 0 _ _ refl ∙ le_yes (v + 1) n _ _ (omega arith))

-- ---- and fits a word

-- where the arena's bytes and the sentinel's word fit
pub size_below : (u n g v m : ℕ) → u * n < m → 1 ≤ u → u + 3 < m → ValidSize n g v → size_word u v < m
size_below u n g v m b h k (valid_free s p q) =
    let l = mul-le-mul_left {m = s} {n = n} u (omega arith) in omega (arith, free_stored u s, l)
size_below u n g v m b h k (valid_used s p q) =
    let l = mul-le-mul_left {m = s + 1} {n = n} u (omega arith) in omega (arith, used_stored u s, l, mul-add u s 1, mul-one u)
size_below u n g v m b h k valid_last = omega (arith, last_stored u)

-- where the arena's bytes fit
pub link_below : (u n v m : ℕ) → u * n < m → ValidLink n v → link_word u (m - 1) v < m
unfolding link_word
link_below u n v m b (inl e) = rw (eq_yes v none (m - 1) (u * v) e) (omega arith)
link_below u n v m b (inr f) =
    let l = mul-le-mul_left {m = v} {n = n} u (omega arith) in
    eq_case (λ (x : ℕ). x < m) v none (m - 1) (u * v) (λ e. omega arith) (λ e. omega arith)

-- ---- what any word says, where it says a block

pub wrong_inside : (n g : ℕ) → Inside n g (word_of wrong_size)
unfolding word_of
wrong_inside n g = tt

-- so it is with every size that was decoded
pub decoded : (u n g v : ℕ) → Inside n g (word_of (size_of u n g v))
unfolding size_of
decoded u n g v =
    eq_case In v (u + 3) _ _ (λ _. rw word_last tt) λ _.
    eq_case In (v / u) 0 _ _ (λ _. wrong_inside n g) λ z.
    le_case In (g + v / u + 1) n _ _
    (λ h. eq_case In (v % u) 0 _ _
    (λ _. rw (word_free (v / u) (omega (arith, z))) (omega (arith, z), h))
    (λ _. eq_case In (v % u) 1 _ _ (λ _. rw (word_used (v / u) (omega (arith, z))) (omega (arith, z), h)) (λ _. wrong_inside n g)))
    (λ _. wrong_inside n g)
  where
    In : ℕ → Type 0
    In x = Inside n g (word_of x)

-- a grain of the arena is behind a used block
pub decoded_used : (u n g v s : ℕ) → word_of (size_of u n g v) ≡ is_used s → (1 ≤ s) × (g + s + 1 ≤ n)
decoded_used u n g v s e = subst (Inside n g) e (decoded u n g v)

-- ---- an arena with words of w bytes

-- the two machines
pub wide_8 : (a : List ℕ) → length a < 2 ^ 64 → Wide 8 a
wide_8 a h = record { some = omega arith; short = h; head = h; grainy = omega arith }

pub wide_4 : (a : List ℕ) → length a < 2 ^ 32 → Wide 4 a
wide_4 a h = record { some = omega arith; short = h; head = omega arith; grainy = omega arith }

-- only the length counts
pub wide_keep : {w : ℕ} {a b : List ℕ} → length b ≡ length a → Wide w a → Wide w b
wide_keep e k = record { some = k.some; short = rw e k.short; head = rw e k.head; grainy = k.grainy }

pub grains_keep : (w : ℕ) (a b : List ℕ) → length b ≡ length a → grains w b ≡ grains w a
unfolding grains
grains_keep w a b e = ap (λ (n : ℕ). n / (4 * w)) e

-- its grains' bytes are inside
pub grains_le : (w : ℕ) (a : List ℕ) → 4 * w * grains w a ≤ length a
unfolding grains
grains_le w a = mul-div-le (length a) (4 * w)

-- no grain is none
pub grains_none : {w : ℕ} {a : List ℕ} → Wide w a → grains w a ≤ none
unfolding grains none
grains_none {w} {a} k = omega (arith, div-le_self (length a) (4 * w), k.head)

-- what is stored fits a word of the arena
module _ {w : ℕ} {a : List ℕ} (k : Wide w a) where
  pub size_fits : (g v : ℕ) → ValidSize (grains w a) g v → size_word (4 * w) v < 256 ^ w
  size_fits g v f =
      size_below (4 * w) (grains w a) g v (256 ^ w) (omega (arith, grains_le w a, k.short)) (omega (arith, k.some)) k.grainy f

  pub link_fits : (v : ℕ) → ValidLink (grains w a) v → link_word (4 * w) (top_of w) v < 256 ^ w
  link_fits v f = link_below (4 * w) (grains w a) v (256 ^ w) (omega (arith, grains_le w a, k.short)) f
