-- What follows from specs/Arena.antt.
use Rattle.std.specs.Prelude.{ℕ, suc, ◌+◌, ◌*◌, ◌≤◌, ◌<◌, ◌≡◌, List, length, get_or}
use Rattle.std.proofs.Common.{mul-le-mul_left, mul-add, mul-one, mul_assoc, mul_comm, arith, ap, sym, ◌∙◌, ⊎_elim}
use Rattle.choice.specs.Choice.{le_yes, le_no, le_case, upd, upd_same, upd_other, same?}
use Rattle.word.specs.Number.{Apart}
use Rattle.word.specs.Word.{word_at, put_at_length, word_at_put, word_at_other, put_at_byte}
use Rattle.sound.specs.Checks.{word_of}
use Rattle.slices.specs.Decode.{size_of, link_of, size_word, link_word, wrong_size, ValidSize, ValidLink, Inside, grains, top_of, Wide}
use Rattle.slices.proofs.Decode.{size_back, link_back, size_fits, link_fits, decoded, wrong_inside, grains_keep, grains_le, grains_none}
use Rattle.slices.specs.Arena.{size_at, link_at, put_size, put_link}

-- what became v at x, and is the same elsewhere
pub changed_at : (f e : ℕ → ℕ) (x v : ℕ) → e x ≡ v → ((y : ℕ) → (x ≡ y → ⊥) → e y ≡ f y) → (y : ℕ) → e y ≡ upd f x v y
changed_at f e x v p q y = ⊎_elim
    (λ (c : y ≡ x). ap e c ∙ p ∙ sym (upd_same f x v y c))
    (λ (n : y ≡ x → ⊥). q y (λ c. n (sym c)) ∙ sym (upd_other f x v y n))
    (same? y x)

-- ---- reading

module _ (w : ℕ) (a : List ℕ) (g : ℕ) where
  -- inside the arena its word is decoded
  pub size_in : g < grains w a → size_at w a g ≡ size_of (4 * w) (grains w a) g (word_at w a (4 * g))
  unfolding size_at
  size_in h = le_yes _ _ _ _ h

  pub link_in : (f out : ℕ) → g < grains w a → link_at w a f out g ≡ link_of (4 * w) (grains w a) (top_of w) (word_at w a (4 * g + f))
  unfolding link_at
  link_in f out h = le_yes _ _ _ _ h

  -- outside nothing is read
  pub size_out : grains w a ≤ g → size_at w a g ≡ wrong_size
  unfolding size_at
  size_out h = le_no _ _ _ _ (λ q. omega arith)

  pub link_out : (f out : ℕ) → grains w a ≤ g → link_at w a f out g ≡ out
  unfolding link_at
  link_out f out h = le_no _ _ _ _ (λ q. omega arith)

  -- a block that a size says lies in the arena, and one grain more
  pub size_inside : Inside (grains w a) g (word_of (size_at w a g))
  unfolding size_at
  size_inside = le_case (λ (x : ℕ). Inside (grains w a) g (word_of x)) (suc g) (grains w a) _ _
      (λ _. decoded (4 * w) (grains w a) g (word_at w a (4 * g)))
      (λ _. wrong_inside (grains w a) g)

-- ---- storing keeps the length

pub put_size_length : (w : ℕ) (a : List ℕ) (g v : ℕ) → length (put_size w a g v) ≡ length a
unfolding put_size
put_size_length w a g v = put_at_length w a (4 * g) (size_word (4 * w) v)

pub put_link_length : (w : ℕ) (a : List ℕ) (f g v : ℕ) → length (put_link w a f g v) ≡ length a
unfolding put_link
put_link_length w a f g v = put_at_length w a (4 * g + f) (link_word (4 * w) (top_of w) v)

pub put_size_grains : (w : ℕ) (a : List ℕ) (g v : ℕ) → grains w (put_size w a g v) ≡ grains w a
put_size_grains w a g v = grains_keep w a (put_size w a g v) (put_size_length w a g v)

pub put_link_grains : (w : ℕ) (a : List ℕ) (f g v : ℕ) → grains w (put_link w a f g v) ≡ grains w a
put_link_grains w a f g v = grains_keep w a (put_link w a f g v) (put_link_length w a f g v)

-- ---- and the bytes outside the word

pub put_size_byte : (w : ℕ) (a : List ℕ) (g v j : ℕ) → Apart (w * (4 * g)) w j 1 → get_or (put_size w a g v) j 0 ≡ get_or a j 0
unfolding put_size
put_size_byte w a g v j = put_at_byte w a (4 * g) (size_word (4 * w) v) j

pub put_link_byte : (w : ℕ) (a : List ℕ) (f g v j : ℕ) → Apart (w * (4 * g + f)) w j 1 → get_or (put_link w a f g v) j 0 ≡ get_or a j 0
unfolding put_link
put_link_byte w a f g v j = put_at_byte w a (4 * g + f) (link_word (4 * w) (top_of w) v) j

-- ---- fields are words

-- field f of a grain is a word of the arena
pub field_inside : (w : ℕ) (a : List ℕ) (g f : ℕ) → g < grains w a → f < 4 → w * (4 * g + f) + w ≤ length a
field_inside w a g f h k =
    let m = mul-le-mul_left {m = 4 * g + f + 1} {n = 4 * grains w a} w (omega arith) in
    omega (arith, m, mul-add w (4 * g + f) 1, mul-one w, grains_le w a, mul_assoc w 4 (grains w a), mul_comm w 4)

-- ---- a size stored

module _ (w : ℕ) (a : List ℕ) (g v : ℕ) where
  -- the other words stay
  size_spares : (j : ℕ) → (4 * g ≡ j → ⊥) → word_at w (put_size w a g v) j ≡ word_at w a j
  unfolding put_size
  size_spares j ne = word_at_other w a (4 * g) (size_word (4 * w) v) j ne

  -- so the other sizes, and all links
  pub size_other : (h : ℕ) → (g ≡ h → ⊥) → size_at w (put_size w a g v) h ≡ size_at w a h
  unfolding size_at
  size_other h ne = rw (put_size_grains w a g v, size_spares (4 * h) (λ e. ne (omega arith)))

  pub size_link : (f out h : ℕ) → 1 ≤ f → f < 4 → link_at w (put_size w a g v) f out h ≡ link_at w a f out h
  unfolding link_at
  size_link f out h p q = rw (put_size_grains w a g v, size_spares (4 * h + f) (λ e. omega arith))

  module _ (k : Wide w a) (h : g < grains w a) (f : ValidSize (grains w a) g v) where
    -- the word that is stored
    size_word_lem : word_at w (put_size w a g v) (4 * g) ≡ size_word (4 * w) v
    unfolding put_size
    size_word_lem = word_at_put w a (4 * g) (size_word (4 * w) v)
        (omega (arith, field_inside w a g 0 h (omega arith)))
        (size_fits k g v f)

    -- the size that is read again
    pub size_same : size_at w (put_size w a g v) g ≡ v
    unfolding size_at
    size_same =
        rw (put_size_grains w a g v, size_word_lem)
        (le_yes _ _ _ _ h ∙ size_back (4 * w) (grains w a) g v (omega (arith, k.some)) f)

    -- the sizes are the old ones but for that of g
    pub size_is : (y : ℕ) → size_at w (put_size w a g v) y ≡ upd (size_at w a) g v y
    size_is = changed_at (size_at w a) (size_at w (put_size w a g v)) g v size_same size_other

-- ---- a link stored

module _ (w : ℕ) (a : List ℕ) (f g v : ℕ) where
  -- the other words stay
  link_spares : (j : ℕ) → (4 * g + f ≡ j → ⊥) → word_at w (put_link w a f g v) j ≡ word_at w a j
  unfolding put_link
  link_spares j ne = word_at_other w a (4 * g + f) (link_word (4 * w) (top_of w) v) j ne

  -- so all sizes, the links in other fields, and those of other grains
  pub link_size : (h : ℕ) → 1 ≤ f → f < 4 → size_at w (put_link w a f g v) h ≡ size_at w a h
  unfolding size_at
  link_size h p q = rw (put_link_grains w a f g v, link_spares (4 * h) (λ e. omega arith))

  pub link_field : (e out h : ℕ) → f < 4 → e < 4 → (f ≡ e → ⊥) → link_at w (put_link w a f g v) e out h ≡ link_at w a e out h
  unfolding link_at
  link_field e out h p q ne = rw (put_link_grains w a f g v, link_spares (4 * h + e) (λ d. ne (omega arith)))

  pub link_other : (out h : ℕ) → (g ≡ h → ⊥) → link_at w (put_link w a f g v) f out h ≡ link_at w a f out h
  unfolding link_at
  link_other out h ne = rw (put_link_grains w a f g v, link_spares (4 * h + f) (λ d. ne (omega arith)))

  module _ (k : Wide w a) (h : g < grains w a) (b : f < 4) (l : ValidLink (grains w a) v) where
    -- the word that is stored
    link_word_lem : word_at w (put_link w a f g v) (4 * g + f) ≡ link_word (4 * w) (top_of w) v
    unfolding put_link
    link_word_lem = word_at_put w a (4 * g + f) (link_word (4 * w) (top_of w) v)
        (field_inside w a g f h b)
        (link_fits k v l)

    -- the link that is read again
    pub link_same : (out : ℕ) → link_at w (put_link w a f g v) f out g ≡ v
    unfolding link_at
    link_same out =
        rw (put_link_grains w a f g v, link_word_lem)
        (le_yes _ _ _ _ h
        ∙ link_back (4 * w) (grains w a) (top_of w) v (omega (arith, k.some)) (omega (arith, grains_le w a, k.short)) (grains_none k) l)

    -- the links in this field are the old ones but for that of g
    pub link_is : (out y : ℕ) → link_at w (put_link w a f g v) f out y ≡ upd (link_at w a f out) g v y
    link_is out = changed_at (link_at w a f out) (link_at w (put_link w a f g v) f out) g v (link_same out) (link_other out)
