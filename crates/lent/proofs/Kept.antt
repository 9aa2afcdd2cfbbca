-- What follows from specs/Kept.antt.
use Rattle.std.specs.Prelude.{ℕ, ◌+◌, ◌*◌, ◌/◌, ◌%◌, ◌≤◌, ◌<◌, ◌≡◌, refl, List, [], ◌∷◌, ◌++◌, ◌⊎◌, length, get_or}
use Rattle.std.proofs.Common.{arith, ap, ◌∙◌, inl, inr, ⊎_elim}
use Rattle.choice.specs.Choice.{eq_case, le?}
use Rattle.word.specs.Number.{Apart}
use Rattle.word.specs.Word.{put_at_length, put_at_byte}
use Rattle.table.specs.Table.{enter_length}
use Rattle.bits.proofs.Map.{mark_length, unmark_length}
use Rattle.script.specs.Memory.{Next, Prev, Write, Spared}
use Rattle.machine.specs.Machine.{word_bytes, half, grain, map_words}
use Rattle.lent.specs.Slices.{Slices, grains, tag_word, put_next, put_prev, store_at, store, stores, Valid, AllValid}
use Rattle.lent.proofs.Fields.{by_field}
use Rattle.lent.specs.Kept.{Lengths, Outside, AllOutside}

-- ---- lengths

pub grains_keep : (a b : List ℕ) → length b ≡ length a → grains b ≡ grains a
unfolding grains
grains_keep a b e = ap (λ (n : ℕ). n / grain) e

-- a grain is one after a store to the arena
pub next_grains : (a : List ℕ) (y v x : ℕ) → x < grains a → x < grains (put_next a y v)
next_grains a y v x h = rw (grains_keep a (put_next a y v) (put_at_length word_bytes a (4 * y) v)) h

pub prev_grains : (a : List ℕ) (y v x : ℕ) → x < grains a → x < grains (put_prev a y v)
prev_grains a y v x h = rw (grains_keep a (put_prev a y v) (put_at_length word_bytes a (4 * y + 1) v)) h

-- a store keeps all four
pub store_lengths : (S : Slices) (w : Write) → Lengths S (store S w)
store_lengths S w = by_field (λ f. Lengths S (store_at S f p v))
    (record { arena = refl; lists = refl; tags = enter_length S.tags p (tag_word v); regions = refl })
    (record { arena = refl; lists = enter_length S.lists (map_words + p) v; tags = refl; regions = refl })
    (record { arena = put_at_length word_bytes S.arena (4 * p) v; lists = refl; tags = refl; regions = refl })
    (record { arena = put_at_length word_bytes S.arena (4 * p + 1) v; lists = refl; tags = refl; regions = refl })
    (record {
      arena = refl;
      lists = eq_case (λ (t : List ℕ). length t ≡ length S.lists) v 0 _ _ (λ _. unmark_length S.lists p) (λ _. mark_length S.lists p);
      tags = refl;
      regions = refl;
    })
    (record { arena = refl; lists = refl; tags = refl; regions = refl })
    (record { arena = refl; lists = refl; tags = refl; regions = enter_length S.regions p v })
    (λ f. record { arena = refl; lists = refl; tags = refl; regions = refl })
    w.field
  where
    p : ℕ
    p = w.place

    v : ℕ
    v = w.value

-- and so do stores
pub stores_lengths : (S : Slices) (l : List Write) → Lengths S (stores S l)
stores_lengths S [] = record { arena = refl; lists = refl; tags = refl; regions = refl }
stores_lengths S (w ∷ l) =
    let a = store_lengths S w in
    let b = stores_lengths (store S w) l in
    record { arena = b.arena ∙ a.arena; lists = b.lists ∙ a.lists; tags = b.tags ∙ a.tags; regions = b.regions ∙ a.regions }

-- ---- what can be stored

-- it depends on the lengths alone
pub valid_keep : (S T : Slices) (w : Write) → Lengths S T → Valid S w → Valid T w
valid_keep S T w e h = rw (grains_keep S.arena T.arena e.arena, e.lists, e.tags, e.regions) h

pub all_valid_keep : (S T : Slices) (l : List Write) → Lengths S T → AllValid S l → AllValid T l
all_valid_keep S T [] e h = tt
all_valid_keep S T (w ∷ l) e h = (valid_keep S T w e h.0, all_valid_keep S T l e h.1)

pub all_valid_append : (S : Slices) (p q : List Write) → AllValid S p → AllValid S q → AllValid S (p ++ q)
all_valid_append S [] q a b = b
all_valid_append S (w ∷ p) q a b = (a.0, all_valid_append S p q a.1 b)

pub stores_append : (S : Slices) (p q : List Write) → stores S (p ++ q) ≡ stores (stores S p) q
stores_append S [] q = refl
stores_append S (w ∷ p) q = stores_append (store S w) p q

-- ---- bytes

-- such a byte stays
pub store_byte : (S : Slices) (w : Write) (j : ℕ) → Outside j w → get_or (store S w).arena j 0 ≡ get_or S.arena j 0
store_byte S w j = by_field (λ f. Outside j (record { field = f; place = p; value = v }) → get_or (store_at S f p v).arena j 0 ≡ get_or S.arena j 0)
    (λ _. refl) (λ _. refl)
    (put_at_byte word_bytes S.arena (4 * p) v j)
    (put_at_byte word_bytes S.arena (4 * p + 1) v j)
    (λ _. refl) (λ _. refl) (λ _. refl) (λ f _. refl)
    w.field
  where
    p : ℕ
    p = w.place

    v : ℕ
    v = w.value

pub stores_byte : (S : Slices) (l : List Write) (j : ℕ) → AllOutside j l → get_or (stores S l).arena j 0 ≡ get_or S.arena j 0
stores_byte S [] j h = refl
stores_byte S (w ∷ l) j h = stores_byte (store S w) l j h.1 ∙ store_byte S w j h.0

-- the words of a grain are in its first half
module _ (j : ℕ) where
  -- word i, in the first half of the grain y, which has byte j in its second half, or not at all
  apart : (y i : ℕ) → 4 * y ≤ i → i < 4 * y + 2 → (half ≤ j % grain) ⊎ (y ≡ j / grain → ⊥) → Apart (word_bytes * i) word_bytes j 1
  apart y i k l h = ⊎_elim
      (λ (q : y ≤ j / grain). inl (⊎_elim (λ (e : half ≤ j % grain). omega arith) (λ (n : y ≡ j / grain → ⊥). omega (arith, n)) h))
      (λ (q : j / grain < y). inr (omega arith))
      (le? y (j / grain))

  outside_one : (w : Write) → (half ≤ j % grain) ⊎ ((w.field ≡ Next → w.place ≡ j / grain → ⊥) × (w.field ≡ Prev → w.place ≡ j / grain → ⊥)) → Outside j w
  outside_one w = by_field (λ f. (half ≤ j % grain) ⊎ ((f ≡ Next → y ≡ j / grain → ⊥) × (f ≡ Prev → y ≡ j / grain → ⊥)) → Outside j (record { field = f; place = y; value = w.value }))
      (λ _. tt) (λ _. tt)
      (λ h. apart y (4 * y) (omega arith) (omega arith) (⊎_elim (λ e. inl e) (λ n. inr (n.0 refl)) h))
      (λ h. apart y (4 * y + 1) (omega arith) (omega arith) (⊎_elim (λ e. inl e) (λ n. inr (n.1 refl)) h))
      (λ _. tt) (λ _. tt) (λ _. tt) (λ f _. tt)
      w.field
    where
      y : ℕ
      y = w.place

  -- byte j is in the second half of its grain
  pub half_outside : half ≤ j % grain → (l : List Write) → AllOutside j l
  half_outside h [] = tt
  half_outside h (w ∷ l) = (outside_one w (inl h), half_outside h l)

  -- nothing is written in its grain
  pub spared_outside : (l : List Write) → Spared Next (j / grain) l → Spared Prev (j / grain) l → AllOutside j l
  spared_outside [] a b = tt
  spared_outside (w ∷ l) a b = (outside_one w (inr (a.0, b.0)), spared_outside l a.1 b.1)
