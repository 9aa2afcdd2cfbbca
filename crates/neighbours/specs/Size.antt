-- A size word compared with the bytes of t grains: equal, it says a free block of t grains; one more, a used one; and no
-- other word says either.
use Rattle.std.specs.Prelude.{ℕ, ◌+◌, ◌-◌, ◌*◌, ◌/◌, ◌%◌, ◌≤◌, ◌<◌, ◌≡◌, List, length, Some}
use Rattle.std.proofs.Common.{arith, ap, sym, ◌∙◌, subst}
use Rattle.choice.specs.Choice.{eq_case, le_case}
use Rattle.word.specs.Word.{word_at}
use Rattle.sound.specs.Checks.{Word, is_free, is_used, is_last, is_bad, word_of}
use Rattle.sound.proofs.Seen.{word_free, word_used, word_last}
use Rattle.slices.specs.Decode.{grains, size_of, wrong_size}
use Rattle.slices.specs.Arena.{size_at}
use Rattle.header.specs.Turned.{turned, turned_is, grains_few}
use Rattle.header.specs.Told.{free_of, used_of, told_free, told_used, size_word}

-- ---- what a word says, and how it is spelled

-- the word v is spelled as what it says
abbrev pub Spelled : ℕ → Word → Type 0
Spelled v (is_free s) = v ≡ 32 * s
Spelled v (is_used s) = v ≡ 32 * s + 1
Spelled v is_last = Unit {0}
Spelled v is_bad = Unit {0}

wrong_spelled : (v : ℕ) → Spelled v (word_of wrong_size)
unfolding word_of
wrong_spelled v = tt

spelled : (n g v : ℕ) → Spelled v (word_of (size_of 32 n g v))
unfolding size_of
spelled n g v =
    eq_case In v 35 _ _ (λ _. rw word_last tt) λ _.
    eq_case In (v / 32) 0 _ _ (λ _. wrong_spelled v) λ z.
    le_case In (g + v / 32 + 1) n _ _
    (λ _. eq_case In (v % 32) 0 _ _
    (λ e. rw (word_free (v / 32) (omega (arith, z))) (omega arith))
    (λ _. eq_case In (v % 32) 1 _ _ (λ e. rw (word_used (v / 32) (omega (arith, z))) (omega arith)) (λ _. wrong_spelled v)))
    (λ _. wrong_spelled v)
  where
    In : ℕ → Type 0
    In x = Spelled v (word_of x)

-- the word of a free block, and of a used one
pub free_some : (w : Word) (s : ℕ) → free_of w ≡ Some s → w ≡ is_free s
free_some (is_free u) s e = let z : u ≡ s = cc in ap is_free z
free_some (is_used u) s e = cc
free_some is_last s e = cc
free_some is_bad s e = cc

pub used_some : (w : Word) (s : ℕ) → used_of w ≡ Some s → w ≡ is_used s
used_some (is_free u) s e = cc
used_some (is_used u) s e = let z : u ≡ s = cc in ap is_used z
used_some is_last s e = cc
used_some is_bad s e = cc

-- ---- in an arena

pub word_spelled : (a : List ℕ) (g v : ℕ) → g < grains 8 a → v ≡ word_at 8 a (4 * g + 0) → Spelled v (word_of (size_at 8 a g))
word_spelled a g v i e = subst (λ (x : ℕ). Spelled v (word_of x)) (sym (size_word a g v i e)) (spelled (grains 8 a) g v)

-- the word v of t grains at g
module _ (a : List ℕ) (g t v : ℕ) (s : length a < 18446744073709551616) (p : 1 ≤ t) (i : g + t < grains 8 a) (e : v ≡ word_at 8 a (4 * g + 0)) where
  pub free_word_lem : v ≡ 32 * t → word_of (size_at 8 a g) ≡ is_free t
  free_word_lem h =
      let d : turned v ≡ t = ap turned h ∙ turned_is t in
      ap word_of (size_word a g v (omega arith) e) ∙ told_free (grains 8 a) g v (omega arith) (grains_few a s) (λ q. omega arith) (omega arith) ∙ ap is_free d

  pub used_word_lem : v ≡ 32 * t + 1 → word_of (size_at 8 a g) ≡ is_used t
  used_word_lem h =
      let k : v - 1 ≡ 32 * t = omega arith in
      let d : turned (v - 1) ≡ t = ap turned k ∙ turned_is t in
      used_some (word_of (size_at 8 a g)) t
      (ap (λ (x : ℕ). used_of (word_of x)) (size_word a g v (omega arith) e) ∙ told_used (grains 8 a) g v (omega arith) (grains_few a s) (omega arith) (omega arith) ∙ ap Some d)
