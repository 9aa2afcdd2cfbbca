-- What follows from specs/Heads.antt.
use Prim.Native.Nat.{ℕ, suc, ◌+◌, ◌-◌, ◌*◌, ◌≤◌, ◌<◌}
use Rattle.std.proofs.Common.{arith, ap, ◌∙◌}
use Rattle.std.specs.Prelude.{◌≡◌, List, length}
use Rattle.std.proofs.Math.Path.{sym}
use Rattle.std.proofs.Math.Logic.{⊎_elim}
use Rattle.choice.specs.Choice.{le_yes, le_no, le?, upd}
use Rattle.table.specs.Table.{entry, enter, enter_length, entry_enter, entry_other}
use Rattle.bits.specs.Map.{map_words, lists, map_bit}
use Rattle.bits.proofs.Map.{map_bit_enter}
use Rattle.script.specs.Memory.{Next, none, root}
use Rattle.slices.specs.Decode.{link_of, link_word, head_bytes, top_of, ValidLink, grains, Wide}
use Rattle.slices.proofs.Decode.{link_back, grains_le, grains_none}
use Rattle.slices.specs.Arena.{link_at, put_link}
use Rattle.slices.proofs.Arena.{put_link_grains, changed_at, link_same, link_other}
use Rattle.slices.specs.Heads.{head_at, put_head, next_at}

-- ---- reading

-- a list's entry is decoded
pub head_in : (u n : ℕ) (t : List ℕ) (k : ℕ) → k < lists → head_at u n t k ≡ link_of u n (top_of head_bytes) (entry t (map_words + k))
unfolding head_at
head_in u n t k h = le_yes _ _ _ _ h

-- what is no list has no head
pub head_out : (u n : ℕ) (t : List ℕ) (k : ℕ) → lists ≤ k → head_at u n t k ≡ none
unfolding head_at
head_out u n t k h = le_no _ _ _ _ (λ q. omega arith)

-- at a root the field is the list's head
pub next_root : (w : ℕ) (a t : List ℕ) (k : ℕ) → next_at w a t (root k) ≡ head_at (4 * w) (grains w a) t k
unfolding next_at
next_root w a t k = le_yes _ _ _ _ (omega arith) ∙ ap (head_at (4 * w) (grains w a) t) (omega arith)

-- elsewhere the link of the grain
pub next_grain : (w : ℕ) (a t : List ℕ) (g : ℕ) → g ≤ none → next_at w a t g ≡ link_at w a Next none g
unfolding next_at
next_grain w a t g h = le_no _ _ _ _ (λ q. omega arith)

-- ---- a head stored

-- the length stays
pub put_head_length : (u : ℕ) (t : List ℕ) (k v : ℕ) → length (put_head u t k v) ≡ length t
unfolding put_head
put_head_length u t k v = enter_length t (map_words + k) (link_word u (top_of head_bytes) v)

-- and the map
pub head_map : (u : ℕ) (t : List ℕ) (k v j : ℕ) → map_bit (put_head u t k v) j ≡ map_bit t j
unfolding put_head
head_map u t k v j = map_bit_enter t (map_words + k) (link_word u (top_of head_bytes) v) j (omega arith)

-- and the other heads
pub head_other : (u n : ℕ) (t : List ℕ) (k v j : ℕ) → (k ≡ j → ⊥) → head_at u n (put_head u t k v) j ≡ head_at u n t j
unfolding head_at put_head
head_other u n t k v j ne = rw (entry_other t (map_words + k) (link_word u (top_of head_bytes) v) (map_words + j) (λ e. ne (omega arith)))

module _ (w : ℕ) (a t : List ℕ) (k v : ℕ) (wide : Wide w a) (h : k < lists) (room : map_words + lists ≤ length t) (l : ValidLink (grains w a) v) where
  -- the head that is read again
  head_same : head_at (4 * w) (grains w a) (put_head (4 * w) t k v) k ≡ v
  unfolding head_at put_head
  head_same =
      rw (entry_enter t (map_words + k) (link_word (4 * w) (top_of head_bytes) v) (omega arith))
      (le_yes _ _ _ _ h
      ∙ link_back (4 * w) (grains w a) (top_of head_bytes) v (omega (arith, wide.some)) (omega (arith, grains_le w a, wide.head)) (grains_none wide) l)

  -- the field Next is the old one but for the root of k
  pub root_is : (y : ℕ) → next_at w a (put_head (4 * w) t k v) y ≡ upd (next_at w a t) (root k) v y
  unfolding next_at
  root_is = changed_at (next_at w a t) (next_at w a (put_head (4 * w) t k v)) (root k) v
      (next_root w a (put_head (4 * w) t k v) k ∙ head_same)
      apart
    where
      apart : (y : ℕ) → (root k ≡ y → ⊥) → next_at w a (put_head (4 * w) t k v) y ≡ next_at w a t y
      apart y ne = ⊎_elim
          (λ (p : suc none ≤ y). le_yes _ _ _ _ p ∙ head_other (4 * w) (grains w a) t k v (y - suc none) (λ e. ne (omega arith)) ∙ sym (le_yes _ _ _ _ p))
          (λ (p : y < suc none). next_grain w a (put_head (4 * w) t k v) y (omega arith) ∙ sym (next_grain w a t y (omega arith)))
          (le? (suc none) y)

-- ---- the next of a grain stored

module _ (w : ℕ) (a t : List ℕ) (g v : ℕ) (wide : Wide w a) (h : g < grains w a) (l : ValidLink (grains w a) v) where
  -- the field Next is the old one but for g
  pub next_is_lem : (y : ℕ) → next_at w (put_link w a Next g v) t y ≡ upd (next_at w a t) g v y
  unfolding next_at
  next_is_lem = changed_at (next_at w a t) (next_at w (put_link w a Next g v) t) g v
      (next_grain w (put_link w a Next g v) t g (omega (arith, grains_none wide)) ∙ link_same w a Next g v wide h (omega arith) l none)
      λ y ne. rw (put_link_grains w a Next g v, link_other w a Next g v none y ne)

-- ---- what else leaves the field alone

-- other words of the arena
pub next_keep : (w : ℕ) (a b t : List ℕ) (y : ℕ) → grains w b ≡ grains w a
    → link_at w b Next none y ≡ link_at w a Next none y → next_at w b t y ≡ next_at w a t y
unfolding next_at
next_keep w a b t y e f = rw (e, f)

-- other entries of the table
pub heads_keep : (w : ℕ) (a t s : List ℕ) (y : ℕ) → ((j : ℕ) → map_words ≤ j → entry s j ≡ entry t j) → next_at w a s y ≡ next_at w a t y
unfolding next_at head_at
heads_keep w a t s y e = rw (e (map_words + (y - suc none)) (omega arith))
