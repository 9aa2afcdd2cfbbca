-- What follows from specs/Kept.antt.
use Rattle.std.specs.Prelude.{ℕ, suc, ◌+◌, ◌*◌, ◌<◌, ◌≡◌, refl, List, [], ◌∷◌, ◌++◌, ◌⊎◌, length, get_or}
use Rattle.std.proofs.Common.{arith, ◌∙◌, inl, inr}
use Rattle.choice.specs.Choice.{eq_case, le_case}
use Rattle.word.specs.Number.{Apart}
use Rattle.table.specs.Table.{enter_length}
use Rattle.bits.proofs.TableBit.{set_table_length, clear_table_length}
use Rattle.bits.proofs.Map.{mark_length, unmark_length}
use Rattle.script.specs.Memory.{Before, Next, Prev, none, Write}
use Rattle.slices.proofs.Decode.{grains_keep}
use Rattle.slices.proofs.Arena.{put_size_length, put_link_length, put_size_byte, put_link_byte}
use Rattle.slices.proofs.Heads.{put_head_length}
use Rattle.slices.specs.Slices.{Slices, store_at, store, stores, Valid, AllValid}
use Rattle.slices.proofs.Fields.{by_field}
use Rattle.slices.specs.Kept.{Lengths, Outside, AllOutside}

-- ---- lengths

-- a store keeps all four
pub store_lengths : (w : ℕ) (S : Slices) (x : Write) → Lengths S (store w S x)
store_lengths w S x = by_field (λ f. Lengths S (store_at w S f p v))
    (record { arena = put_size_length w S.arena p v; lists = refl; live = refl; regions = refl })
    (record { arena = put_link_length w S.arena Before p v; lists = refl; live = refl; regions = refl })
    (record {
      arena = le_case (Long S.arena) (suc none) p _ _ (λ _. refl) (λ _. put_link_length w S.arena Next p v);
      lists = le_case (Long S.lists) (suc none) p _ _ (λ _. put_head_length (4 * w) S.lists _ v) (λ _. refl);
      live = refl;
      regions = refl;
    })
    (record { arena = put_link_length w S.arena Prev p v; lists = refl; live = refl; regions = refl })
    (record {
      arena = refl;
      lists = eq_case (Long S.lists) v 0 _ _ (λ _. unmark_length S.lists p) (λ _. mark_length S.lists p);
      live = refl;
      regions = refl;
    })
    (record {
      arena = refl;
      lists = refl;
      live = eq_case (Long S.live) v 0 _ _ (λ _. clear_table_length S.live p) (λ _. set_table_length S.live p);
      regions = refl;
    })
    (record { arena = refl; lists = refl; live = refl; regions = enter_length S.regions p v })
    (λ f. record { arena = refl; lists = refl; live = refl; regions = refl })
    x.field
  where
    p : ℕ
    p = x.place

    v : ℕ
    v = x.value

    Long : List ℕ → List ℕ → Type 0
    Long a b = length b ≡ length a

-- and so do stores
pub stores_lengths : (w : ℕ) (S : Slices) (l : List Write) → Lengths S (stores w S l)
stores_lengths w S [] = record { arena = refl; lists = refl; live = refl; regions = refl }
stores_lengths w S (x ∷ l) =
    let a = store_lengths w S x in
    let b = stores_lengths w (store w S x) l in
    record { arena = b.arena ∙ a.arena; lists = b.lists ∙ a.lists; live = b.live ∙ a.live; regions = b.regions ∙ a.regions }

-- ---- what can be stored

-- it hangs on the lengths alone
pub valid_keep : (w : ℕ) (S T : Slices) (x : Write) → Lengths S T → Valid w S x → Valid w T x
valid_keep w S T x e h = rw (grains_keep w S.arena T.arena e.arena, e.lists, e.live, e.regions) h

pub all_valid_keep : (w : ℕ) (S T : Slices) (l : List Write) → Lengths S T → AllValid w S l → AllValid w T l
all_valid_keep w S T [] e h = tt
all_valid_keep w S T (x ∷ l) e h = (valid_keep w S T x e h.0, all_valid_keep w S T l e h.1)

pub all_valid_append : (w : ℕ) (S : Slices) (p q : List Write) → AllValid w S p → AllValid w S q → AllValid w S (p ++ q)
all_valid_append w S [] q a b = b
all_valid_append w S (x ∷ p) q a b = (a.0, all_valid_append w S p q a.1 b)

pub stores_append : (w : ℕ) (S : Slices) (p q : List Write) → stores w S (p ++ q) ≡ stores w (stores w S p) q
stores_append w S [] q = refl
stores_append w S (x ∷ p) q = stores_append w (store w S x) p q

-- ---- bytes

-- such a byte stays
pub store_byte : (w : ℕ) (S : Slices) (x : Write) (j : ℕ) → Outside w j x → get_or (store w S x).arena j 0 ≡ get_or S.arena j 0
store_byte w S x j = by_field (λ f. Outside w j (record { field = f; place = p; value = v }) → Stays (store_at w S f p v).arena)
    (put_size_byte w S.arena p v j)
    (put_link_byte w S.arena Before p v j)
    (λ h. le_case Stays (suc none) p _ _ (λ _. refl) (λ k. put_link_byte w S.arena Next p v j (low h k)))
    (put_link_byte w S.arena Prev p v j)
    (λ _. refl) (λ _. refl) (λ _. refl) (λ f _. refl)
    x.field
  where
    p : ℕ
    p = x.place

    v : ℕ
    v = x.value

    Stays : List ℕ → Type 0
    Stays a = get_or a j 0 ≡ get_or S.arena j 0

    low : (none < p) ⊎ Apart (w * (4 * p + Next)) w j 1 → p < suc none → Apart (w * (4 * p + Next)) w j 1
    low (inl e) k = absurd (omega arith)
    low (inr e) k = e

pub stores_byte : (w : ℕ) (S : Slices) (l : List Write) (j : ℕ) → AllOutside w j l → get_or (stores w S l).arena j 0 ≡ get_or S.arena j 0
stores_byte w S [] j h = refl
stores_byte w S (x ∷ l) j h = stores_byte w (store w S x) l j h.1 ∙ store_byte w S x j h.0
