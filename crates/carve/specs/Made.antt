-- The writes that make a block, stored: sizes and links as words of the arena, and the writes of a whole block, of one that
-- is split, and of a pad.
use Rattle.std.specs.Prelude.{ℕ, ◌+◌, ◌-◌, ◌*◌, ◌/◌, ◌%◌, ◌≤◌, ◌<◌, ◌≡◌, length}
use native.Mathlib.Omega.{arith}
use Rattle.std.proofs.Math.Path.{ap}
use Rattle.std.proofs.Common.{sym, ◌∙◌}
use mathlib.Core.List.{List, [], ◌∷◌, ◌++◌}
use Rattle.choice.specs.Choice.{if_eq, eq_yes, eq_no}
use Rattle.word.specs.Word.{put_at, put_at_length}
use Rattle.script.specs.Memory.{Size, Before, Prev, free_word, used_word, Write, ◌at◌≔◌}
use Rattle.sound.specs.Links.{push_writes}
use Rattle.sound.specs.Plans.{whole_writes, split_writes, pad_writes}
use Rattle.slices.specs.Decode.{size_word, link_word, top_of, grains}
use Rattle.slices.proofs.Decode.{grains_keep, free_stored, used_stored}
use Rattle.slices.specs.Arena.{put_size, put_link}
use Rattle.slices.specs.Slices.{Slices, stores}
use Rattle.free_list.specs.Lent.{lent, grain_stored}
use Rattle.free_list.specs.Written.{Written, written_none, written_then, written_as, wrote_prev}

-- the writes w made b of the arena a, whatever the lists are, which stay
abbrev pub WrittenInArena : List ℕ → List Write → List ℕ → Type 0
WrittenInArena a w b = (l : List ℕ) → Written a l w b l

-- a word put leaves the grains as many
pub put_grains : (a b : List ℕ) (i v : ℕ) → b ≡ put_at 8 a i v → grains 8 b ≡ grains 8 a
put_grains a b i v e = grains_keep 8 a b (ap length e ∙ put_at_length 8 a i v)

-- ---- one write

module _ (a b : List ℕ) where
  -- from all four slices
  in_arena : (w : List Write) → ((l v t : List ℕ) → lent b l v t ≡ stores 8 (lent a l v t) w) → WrittenInArena a w b
  in_arena w h l = record {
    arena = λ v t. ap (λ (S : Slices). S.arena) (h l v t);
    lists = λ v t. ap (λ (S : Slices). S.lists) (h l v t);
    slices = λ v t. h l v t;
  }

  wrote_size : (g v z : ℕ) → size_word 32 v ≡ z → b ≡ put_at 8 a (4 * g + 0) z → WrittenInArena a ((Size at g ≔ v) ∷ []) b
  unfolding put_size
  wrote_size g v z e p =
      let i : 4 * g + 0 ≡ 4 * g = omega arith in
      in_arena ((Size at g ≔ v) ∷ []) λ l v t. ap (λ (c : List ℕ). lent c l v t) (p ∙ ap (λ (j : ℕ). put_at 8 a j z) i ∙ ap (put_at 8 a (4 * g)) (sym e))

  wrote_before : (g x z : ℕ) → link_word 32 (top_of 8) x ≡ z → b ≡ put_at 8 a (4 * g + Before) z → WrittenInArena a ((Before at g ≔ x) ∷ []) b
  unfolding put_link
  wrote_before g x z e p = in_arena ((Before at g ≔ x) ∷ []) λ l v t. ap (λ (c : List ℕ). lent c l v t) (p ∙ ap (put_at 8 a (4 * g + Before)) (sym e))

-- ---- all of them

module _ (a b c : List ℕ) (x t : ℕ) (s : length a < 18446744073709551616) (h : x + t < grains 8 a) where
  -- the words u and w of the size and of the link
  pub whole_made : (u w : ℕ) → u ≡ 32 * t → w ≡ 32 * x → b ≡ put_at 8 a (4 * x + 0) (u + 1) → c ≡ put_at 8 b (4 * (x + t) + 1) w → WrittenInArena a (whole_writes x t) c
  whole_made u w e f p q l = written_then
      (wrote_size a b x (used_word t) (u + 1) (used_stored 32 t ∙ ap (λ (z : ℕ). z + 1) (sym e)) p l)
      (wrote_before b c (x + t) x w (grain_stored a x s (omega arith) ∙ sym f) q l)

  pub split_made : (d o : List ℕ) (m u v w y : ℕ) → m ≤ t → u ≡ 32 * m → v ≡ 32 * (t - m) → w ≡ 32 * x → y ≡ 32 * (x + m)
      → b ≡ put_at 8 a (4 * x + 0) (u + 1) → c ≡ put_at 8 b (4 * (x + m) + 0) v → d ≡ put_at 8 c (4 * (x + m) + 1) w → o ≡ put_at 8 d (4 * (x + t) + 1) y
      → WrittenInArena a (split_writes x t m) o
  split_made d o m u v w y k e f g i p q r z l = written_then
      (wrote_size a b x (used_word m) (u + 1) (used_stored 32 m ∙ ap (λ (z : ℕ). z + 1) (sym e)) p l)
      (written_then (wrote_size b c (x + m) (free_word (t - m)) v (free_stored 32 (t - m) ∙ sym f) q l)
      (written_then (wrote_before c d (x + m) x w (grain_stored a x s (omega arith) ∙ sym g) r l)
      (wrote_before d o (x + t) (x + m) y (grain_stored a (x + m) s (omega arith) ∙ sym i) z l)))

-- a payload of the small kind has no pad
pub pad_none : (a : List ℕ) (x d : ℕ) → (d % 2 ≡ 0 → ⊥) → WrittenInArena a (pad_writes x d) a
pad_none a x d n l = written_as (eq_no (d % 2) 0 _ _ n) (written_none a l)

pub pad_made : (a b : List ℕ) (x d w : ℕ) → length a < 18446744073709551616 → x < grains 8 a → d % 2 ≡ 0 → w ≡ 32 * x
    → b ≡ put_at 8 a (4 * (x + d / 2 - 1) + Prev) w → WrittenInArena a (pad_writes x d) b
pad_made a b x d w s h e f p l = written_as (eq_yes (d % 2) 0 _ _ e) (wrote_prev a l b (x + d / 2 - 1) x w (grain_stored a x s h ∙ sym f) p)

-- ---- what is left of a block

-- the first m of t grains at x are used; the rest, if any, goes before h, the head of list q
abbrev pub left_behind : ℕ → ℕ → ℕ → ℕ → ℕ → List Write
left_behind x t m q h = if_eq m t (whole_writes x t) (push_writes q (x + m) h ++ split_writes x t m)

pub left_whole : (a b l : List ℕ) (x t m q h : ℕ) → m ≡ t → WrittenInArena a (whole_writes x t) b → Written a l (left_behind x t m q h) b l
left_whole a b l x t m q h e w = written_as (eq_yes m t _ _ e) (w l)

pub left_split : (a b c l o : List ℕ) (x t m q h : ℕ) → (m ≡ t → ⊥) → Written a l (push_writes q (x + m) h) b o → WrittenInArena b (split_writes x t m) c
    → Written a l (left_behind x t m q h) c o
left_split a b c l o x t m q h n p w = written_as (eq_no m t _ _ n) (written_then p (w o))
