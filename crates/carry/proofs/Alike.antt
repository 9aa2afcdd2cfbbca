-- What follows from specs/Alike.antt.
use Prim.Native.Nat.{ℕ, zero, suc, ◌+◌, ◌/◌, ◌%◌, ◌≤◌, ◌<◌}
use Rattle.std.proofs.Common.{arith, sym, ◌∙◌, ⊎_elim, length-set, get_or-set_same, get_or-set_other}
use Rattle.std.specs.Prelude.{◌≡◌, List, [], ◌∷◌, length, set}
use Rattle.std.proofs.Math.ListN.{get_or-eq_default}
use Rattle.choice.specs.Choice.{if_le, le_yes, le_no, same?, le?}
use Rattle.word.specs.Number.{puts}
use Rattle.word.specs.Word.{put_at}
use Rattle.script.specs.Memory.{Before, Next, Prev, none, Write}
use Rattle.slices.specs.Arena.{put_size, put_link}
use Rattle.slices.specs.Slices.{Slices, with_arena, store_at, store, stores}
use Rattle.slices.proofs.Fields.{by_field}
use Rattle.carry.specs.Alike.{SameByte, SameTables}

-- ---- the arena

module _ (j : ℕ) where
  -- one byte stored in both
  set_same : (i v : ℕ) (a b : List ℕ) → SameByte j a b → SameByte j (set a i v) (set b i v)
  set_same i v a b s = (
    length-set b i v ∙ s.0 ∙ sym (length-set a i v),
    ⊎_elim
        (λ (e : j ≡ i). ⊎_elim
        (λ (h : suc i ≤ length a). rw e (get_or-set_same b i v 0 (omega (arith, s.0)) ∙ sym (get_or-set_same a i v 0 (omega arith))))
        (λ (h : length a < suc i). get_or-eq_default (set b i v) 0 (omega (arith, length-set b i v, s.0)) ∙ sym (get_or-eq_default (set a i v) 0 (omega (arith, length-set a i v))))
        (le? (suc i) (length a)))
        (λ (n : j ≡ i → ⊥). get_or-set_other b i j v 0 n ∙ s.1 ∙ sym (get_or-set_other a i j v 0 n))
        (same? j i),
  )

  -- a number
  puts_same : (n i v : ℕ) (a b : List ℕ) → SameByte j a b → SameByte j (puts n a i v) (puts n b i v)
  unfolding puts
  puts_same zero i v a b s = s
  puts_same (suc n) i v a b s = puts_same n (i + 1) (v / 256) (set a i (v % 256)) (set b i (v % 256)) (set_same i (v % 256) a b s)

  -- a size or a link
  size_same : (w g v : ℕ) (a b : List ℕ) → SameByte j a b → SameByte j (put_size w a g v) (put_size w b g v)
  unfolding put_size put_at
  size_same w g v a b s = puts_same w _ _ a b s

  link_same : (w f g v : ℕ) (a b : List ℕ) → SameByte j a b → SameByte j (put_link w a f g v) (put_link w b f g v)
  unfolding put_link put_at
  link_same w f g v a b s = puts_same w _ _ a b s

  -- the one or the other, by the same condition
  low_or_high : (m p : ℕ) (a b c d : List ℕ) → SameByte j a b → SameByte j c d → SameByte j (if_le m p a c) (if_le m p b d)
  low_or_high m p a b c d x y = ⊎_elim
      (λ (h : m ≤ p). rw (le_yes m p a c h, le_yes m p b d h) x)
      (λ (h : p < m). let n : m ≤ p → ⊥ = omega arith in rw (le_no m p a c n, le_no m p b d n) y)
      (le? m p)

-- ---- the slices

module _ (w : ℕ) where
  -- a write, stored in two arenas
  store_byte : (j : ℕ) (S T : Slices) (x : Write) → SameByte j S.arena T.arena → SameByte j (store w S x).arena (store w T x).arena
  store_byte j S T x s = by_field (λ f. SameByte j (store_at w S f p v).arena (store_at w T f p v).arena)
      (size_same j w p v S.arena T.arena s)
      (link_same j w Before p v S.arena T.arena s)
      (low_or_high j (suc none) p S.arena T.arena _ _ s (link_same j w Next p v S.arena T.arena s))
      (link_same j w Prev p v S.arena T.arena s)
      s s s (λ f. s)
      x.field
    where
      p : ℕ
      p = x.place

      v : ℕ
      v = x.value

  -- all of them: the arenas agree where they agreed
  pub stores_same_byte : (j : ℕ) (l : List Write) (S T : Slices) → SameByte j S.arena T.arena → SameByte j (stores w S l).arena (stores w T l).arena
  stores_same_byte j [] S T s = s
  stores_same_byte j (x ∷ l) S T s = stores_same_byte j l (store w S x) (store w T x) (store_byte j S T x s)

module _ (w : ℕ) where
  -- a write, stored in both
  store_tables : (S T : Slices) (x : Write) → SameTables S T → SameTables (store w S x) (store w T x)
  store_tables S T x k = by_field (λ f. SameTables (store_at w S f p v) (store_at w T f p v))
      in_arena in_arena
      (record { lists = rw k.lists; live = k.live; regions = k.regions })
      in_arena
      (record { lists = rw k.lists; live = k.live; regions = k.regions })
      (record { lists = k.lists; live = rw k.live; regions = k.regions })
      (record { lists = k.lists; live = k.live; regions = rw k.regions })
      (λ f. k)
      x.field
    where
      p : ℕ
      p = x.place

      v : ℕ
      v = x.value

      in_arena : {a b : List ℕ} → SameTables (with_arena S a) (with_arena T b)
      in_arena = record { lists = k.lists; live = k.live; regions = k.regions }

  -- all of them: the tables stay the same
  pub stores_same_tables : (l : List Write) (S T : Slices) → SameTables S T → SameTables (stores w S l) (stores w T l)
  stores_same_tables [] S T k = k
  stores_same_tables (x ∷ l) S T k = stores_same_tables l (store w S x) (store w T x) (store_tables S T x k)
