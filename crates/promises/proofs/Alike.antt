-- What follows from specs/Alike.antt.
use Prim.Native.Nat.{ℕ, zero, suc, ◌+◌, ◌*◌, ◌/◌, ◌%◌, ◌≤◌, ◌<◌}
use Rattle.std.proofs.Common.{arith, sym, ◌∙◌, ⊎_elim, length-set, get_or-set_same, get_or-set_other}
use Rattle.std.specs.Prelude.{◌≡◌, List, [], ◌∷◌, length, set}
use Rattle.std.proofs.Math.ListN.{get_or-eq_default}
use Rattle.choice.specs.Choice.{same?, le?}
use Rattle.word.specs.Number.{puts}
use Rattle.word.specs.Word.{put_at}
use Rattle.script.specs.Memory.{Write}
use Rattle.machine.specs.Machine.{word_bytes}
use Rattle.lent.specs.Slices.{Slices, with_arena, store_at, store, stores}
use Rattle.lent.specs.Held.{byte_values}
use Rattle.lent.proofs.Fields.{by_field}
use Rattle.promises.specs.Terms.{SameTables}
use Rattle.promises.specs.Alike.{SameByte}

-- ---- the arena

module _ (j : ℕ) where
  -- one byte stored in both
  set_same : (i v : ℕ) (a b : List ℕ) → SameByte j a b → SameByte j (set a i v) (set b i v)
  set_same i v a b s = (
    length-set b i v ∙ s.0 ∙ sym (length-set a i v),
    ⊎_elim
        (λ (e : j ≡ i). ⊎_elim
        (λ (h : suc i ≤ length a). rw e (get_or-set_same b i v 0 (omega (arith, s.0)) ∙ sym (get_or-set_same a i v 0 (omega arith))))
        (λ (h : length a < suc i). get_or-eq_default (set b i v) 0 (omega (arith, length-set b i v, s.0)) ∙ sym (get_or-eq_default (set a i v) 0 (omega (arith, length-set a i v))))
        (le? (suc i) (length a)))
        (λ (n : j ≡ i → ⊥). get_or-set_other b i j v 0 n ∙ s.1 ∙ sym (get_or-set_other a i j v 0 n))
        (same? j i),
  )

  -- a number
  puts_same : (n i v : ℕ) (a b : List ℕ) → SameByte j a b → SameByte j (puts n a i v) (puts n b i v)
  unfolding puts
  puts_same zero i v a b s = s
  puts_same (suc n) i v a b s = puts_same n (i + 1) (v / byte_values) (set a i (v % byte_values)) (set b i (v % byte_values)) (set_same i (v % byte_values) a b s)

  put_same : (i v : ℕ) (a b : List ℕ) → SameByte j a b → SameByte j (put_at word_bytes a i v) (put_at word_bytes b i v)
  unfolding put_at
  put_same i v a b s = puts_same word_bytes (word_bytes * i) v a b s

  -- a write, stored in two arenas
  store_byte : (S T : Slices) (x : Write) → SameByte j S.arena T.arena → SameByte j (store S x).arena (store T x).arena
  store_byte S T x s = by_field (λ f. SameByte j (store_at S f p v).arena (store_at T f p v).arena)
      s s (put_same (4 * p) v S.arena T.arena s) (put_same (4 * p + 1) v S.arena T.arena s) s s s (λ f. s)
      x.field
    where
      p : ℕ
      p = x.place

      v : ℕ
      v = x.value

  -- all of them: the arenas agree where they agreed
  pub stores_same_byte : (l : List Write) (S T : Slices) → SameByte j S.arena T.arena → SameByte j (stores S l).arena (stores T l).arena
  stores_same_byte [] S T s = s
  stores_same_byte (x ∷ l) S T s = stores_same_byte l (store S x) (store T x) (store_byte S T x s)

-- ---- the tables

-- a write, stored in both
store_tables : (S T : Slices) (x : Write) → SameTables S T → SameTables (store S x) (store T x)
store_tables S T x k = by_field (λ f. SameTables (store_at S f p v) (store_at T f p v))
    (record { lists = k.lists; tags = rw k.tags; regions = k.regions })
    (record { lists = rw k.lists; tags = k.tags; regions = k.regions })
    in_arena in_arena
    (record { lists = rw k.lists; tags = k.tags; regions = k.regions })
    k
    (record { lists = k.lists; tags = k.tags; regions = rw k.regions })
    (λ f. k)
    x.field
  where
    p : ℕ
    p = x.place

    v : ℕ
    v = x.value

    in_arena : {a b : List ℕ} → SameTables (with_arena S a) (with_arena T b)
    in_arena = record { lists = k.lists; tags = k.tags; regions = k.regions }

-- all of them: the tables stay the same
pub stores_same_tables : (l : List Write) (S T : Slices) → SameTables S T → SameTables (stores S l) (stores T l)
stores_same_tables [] S T k = k
stores_same_tables (x ∷ l) S T k = stores_same_tables l (store S x) (store T x) (store_tables S T x k)
