-- An arena that is another one but for some of its words, and a table that is another one but for some of its entries.
-- Putting back a word that stood there leaves one word less; at the end the two are equal.
use Rattle.std.specs.Prelude.{ℕ, zero, suc, ◌+◌, ◌*◌, ◌/◌, ◌%◌, ◌≤◌, ◌<◌, ◌≡◌, refl, List, [], ◌∷◌, ◌⊎◌, length, get_or, set}
use Rattle.std.proofs.Common.{arith, ◌∙◌, subst, inl, inr, ⊎_elim, length-set, get_or-set_same, ext_get_or}
use Rattle.choice.specs.Choice.{le?, same?}
use Rattle.word.specs.Number.{num, puts, Apart, puts_byte}
use Rattle.word.specs.Word.{word_at, put_at, put_at_length, put_at_byte}
use Rattle.table.specs.Table.{entry, enter, enter_length, entry_enter, entry_other}

-- ---- the arena

-- what each byte is
abbrev pub Bytes : List ℕ → Type 0
Bytes a = (i : ℕ) → i < length a → get_or a i 0 < 256

-- byte j is in none of these words
abbrev pub Clear : ℕ → List ℕ → Type 0
Clear j [] = Unit {0}
Clear j (i ∷ p) = Apart (8 * i) 8 j 1 × Clear j p

-- these words are in an arena of n bytes
abbrev pub AllIn : ℕ → List ℕ → Type 0
AllIn n [] = Unit {0}
AllIn n (i ∷ p) = (8 * i + 8 ≤ n) × AllIn n p

-- b is a, but for the words p
pub record Agree (a b p : List ℕ) : Type 0 where
  pub size : length b ≡ length a
  pub same : (j : ℕ) → Clear j p → get_or b j 0 ≡ get_or a j 0

pub agree_refl : (a p : List ℕ) → Agree a a p
agree_refl a p = record { size = refl; same = λ j h. refl }

pub agree_trans : (a b c p : List ℕ) → Agree a b p → Agree b c p → Agree a c p
agree_trans a b c p f g = record { size = g.size ∙ f.size; same = λ j h. g.same j h ∙ f.same j h }

-- the bytes that the number of a's bytes is put into are a's
puts_num : (n : ℕ) (a b : List ℕ) (i j : ℕ) → Bytes a → i + n ≤ length a → i + n ≤ length b → i ≤ j → j < i + n → get_or (puts n b i (num n a i)) j 0 ≡ get_or a j 0
unfolding num puts
puts_num zero a b i j f h k l m = absurd (omega arith)
puts_num (suc n) a b i j f h k l m =
    let u = num n a (i + 1) in
    let v = get_or a i 0 + 256 * u in
    let x : get_or a i 0 < 256 = f i (omega arith) in
    let low : v % 256 ≡ get_or a i 0 = omega (arith, x) in
    let high : v / 256 ≡ u = omega (arith, x) in
    rw (low, high) (⊎_elim
    (λ (e : i ≡ j). subst (λ (z : ℕ). get_or (puts n (set b i (get_or a i 0)) (i + 1) u) z 0 ≡ get_or a z 0) e
    (puts_byte n (set b i (get_or a i 0)) (i + 1) u i (inr (omega arith)) ∙ get_or-set_same b i (get_or a i 0) 0 (omega arith)))
    (λ (d : i ≡ j → ⊥). puts_num n a (set b i (get_or a i 0)) (i + 1) j f (omega arith) (rw (length-set b i (get_or a i 0)) (omega arith)) (omega (arith, d)) (omega arith))
    (same? i j))

-- byte j is in word i, or not
byte? : (i j : ℕ) → Apart (8 * i) 8 j 1 ⊎ ((8 * i ≤ j) × (j < 8 * i + 8))
byte? i j = ⊎_elim
    (λ (h : 8 * i + 8 ≤ j). inl (inl h))
    (λ (h : j < 8 * i + 8). ⊎_elim (λ (l : 8 * i ≤ j). inr (l, h)) (λ (l : j < 8 * i). inl (inr (omega arith))) (le? (8 * i) j))
    (le? (8 * i + 8) j)

-- and so are those of a word
put_word : (a b : List ℕ) (i j : ℕ) → Bytes a → 8 * i + 8 ≤ length a → 8 * i + 8 ≤ length b → 8 * i ≤ j → j < 8 * i + 8 → get_or (put_at 8 b i (word_at 8 a i)) j 0 ≡ get_or a j 0
unfolding word_at put_at
put_word a b i j f h k l m = puts_num 8 a b (8 * i) j f h k l m

-- a word of a put back
pub agree_put : (a b : List ℕ) (i : ℕ) (p : List ℕ) → Bytes a → 8 * i + 8 ≤ length a → Agree a b (i ∷ p) → Agree a (put_at 8 b i (word_at 8 a i)) p
agree_put a b i p f h g = record {
  size = put_at_length 8 b i (word_at 8 a i) ∙ g.size;
  same = λ j c. ⊎_elim
      (λ (o : Apart (8 * i) 8 j 1). put_at_byte 8 b i (word_at 8 a i) j o ∙ g.same j (o, c))
      (λ (o : (8 * i ≤ j) × (j < 8 * i + 8)). inside j o.0 o.1)
      (byte? i j);
}
  where
    inside : (j : ℕ) → 8 * i ≤ j → j < 8 * i + 8 → get_or (put_at 8 b i (word_at 8 a i)) j 0 ≡ get_or a j 0
    inside j l m = put_word a b i j f h (omega (arith, g.size)) l m

-- all of them
abbrev pub puts_back : List ℕ → List ℕ → List ℕ → List ℕ
puts_back a b [] = b
puts_back a b (i ∷ p) = puts_back a (put_at 8 b i (word_at 8 a i)) p

pub agree_back : (a b p : List ℕ) → Bytes a → AllIn (length a) p → Agree a b p → puts_back a b p ≡ a
agree_back a b [] f h g = ext_get_or 0 _ _ g.size (λ j l. g.same j tt)
agree_back a b (i ∷ p) f h g = agree_back a (put_at 8 b i (word_at 8 a i)) p f h.1 (agree_put a b i p f h.0 g)

-- ---- a table

-- j is none of these entries
abbrev pub Else : ℕ → List ℕ → Type 0
Else j [] = Unit {0}
Else j (i ∷ p) = (i ≡ j → ⊥) × Else j p

-- these entries are in a table of n
abbrev pub AllBelow : ℕ → List ℕ → Type 0
AllBelow n [] = Unit {0}
AllBelow n (i ∷ p) = (i < n) × AllBelow n p

-- u is t, but for the entries p
pub record Alike (t u p : List ℕ) : Type 0 where
  pub size : length u ≡ length t
  pub same : (j : ℕ) → Else j p → entry u j ≡ entry t j

pub alike_refl : (t p : List ℕ) → Alike t t p
alike_refl t p = record { size = refl; same = λ j h. refl }

pub alike_trans : (t u v p : List ℕ) → Alike t u p → Alike u v p → Alike t v p
alike_trans t u v p f g = record { size = g.size ∙ f.size; same = λ j h. g.same j h ∙ f.same j h }

-- an entry of t put back
pub alike_enter : (t u : List ℕ) (i : ℕ) (p : List ℕ) → i < length t → Alike t u (i ∷ p) → Alike t (enter u i (entry t i)) p
alike_enter t u i p h g = record {
  size = enter_length u i (entry t i) ∙ g.size;
  same = λ j c. ⊎_elim
      (λ (e : i ≡ j). subst (λ (z : ℕ). entry (enter u i (entry t i)) z ≡ entry t z) e (entry_enter u i (entry t i) (omega (arith, g.size))))
      (λ (n : i ≡ j → ⊥). entry_other u i (entry t i) j n ∙ g.same j (n, c))
      (same? i j);
}

-- all of them
abbrev pub enters_back : List ℕ → List ℕ → List ℕ → List ℕ
enters_back t u [] = u
enters_back t u (i ∷ p) = enters_back t (enter u i (entry t i)) p

pub alike_back : (t u p : List ℕ) → AllBelow (length t) p → Alike t u p → enters_back t u p ≡ t
unfolding entry
alike_back t u [] h g = ext_get_or 0 _ _ g.size (λ j l. g.same j tt)
alike_back t u (i ∷ p) h g = alike_back t (enter u i (entry t i)) p h.1 (alike_enter t u i p h.0 g)
