-- What follows from specs/Held.antt.
use Rattle.std.specs.Prelude.{ℕ, zero, suc, ◌+◌, ◌*◌, ◌/◌, ◌%◌, ◌<◌, List, [], ◌∷◌, get_or, set}
use Rattle.std.proofs.Common.{arith}
use Rattle.choice.specs.Choice.{eq_case}
use Rattle.word.specs.Number.{puts}
use Rattle.word.specs.Word.{put_at}
use Rattle.table.specs.Table.{entry, enter}
use Rattle.bits.proofs.Bit.{set_bit_lt, clear_bit_lt}
use Rattle.bits.specs.TableBit.{set_table_bit, clear_table_bit}
use Rattle.bits.specs.Map.{mark_bit, unmark_bit}
use Rattle.script.specs.Memory.{Write}
use Rattle.machine.specs.Machine.{word_bytes, words, map_words}
use Rattle.lent.specs.Slices.{Slices, tag_words, tag_word, put_mark, Fits, store_at, store, stores, Valid, AllValid}
use Rattle.lent.proofs.TagWords.{tag_word_fits}
use Rattle.lent.proofs.Fields.{by_field}
use Rattle.lent.proofs.Kept.{store_lengths, all_valid_keep}
use Rattle.lent.specs.Held.{byte_values, Under, Held}

-- an entry of a table
pub entry_under : (b : ℕ) (t : List ℕ) (i : ℕ) → Under b t → entry t i < b
unfolding entry
entry_under b t i h = h i

-- ---- one element more

set_case : (P : ℕ → Type 0) (t : List ℕ) (i v j : ℕ) → P v → P (get_or t j 0) → P (get_or (set t i v) j 0)
set_case P [] i v j p q = q
set_case P (x ∷ t) zero v zero p q = p
set_case P (x ∷ t) zero v (suc j) p q = q
set_case P (x ∷ t) (suc i) v zero p q = q
set_case P (x ∷ t) (suc i) v (suc j) p q = set_case P t i v j p q

pub enter_under : (b : ℕ) (t : List ℕ) (i v : ℕ) → v < b → Under b t → Under b (enter t i v)
unfolding enter
enter_under b t i v h u j = set_case (λ (x : ℕ). x < b) t i v j h (u j)

puts_under : (n : ℕ) (l : List ℕ) (i v : ℕ) → Under byte_values l → Under byte_values (puts n l i v)
unfolding puts
puts_under zero l i v u = u
puts_under (suc n) l i v u =
    puts_under n (set l i (v % 256)) (i + 1) (v / 256) (λ j. set_case (λ (x : ℕ). x < byte_values) l i (v % 256) j (omega arith) (u j))

put_under : (l : List ℕ) (i v : ℕ) → Under byte_values l → Under byte_values (put_at word_bytes l i v)
unfolding put_at
put_under l i v u = puts_under word_bytes l (word_bytes * i) v u

mark_under : (t : List ℕ) (k v : ℕ) → Under words t → Under words (put_mark t k v)
unfolding mark_bit unmark_bit set_table_bit clear_table_bit
mark_under t k v u = eq_case (Under words) v 0 _ _
    (λ _. enter_under words t _ _ (clear_bit_lt (8 * word_bytes) _ _ (entry_under words t _ u) (omega arith)) u)
    (λ _. enter_under words t _ _ (set_bit_lt (8 * word_bytes) _ _ (entry_under words t _ u) (omega arith)) u)

-- ---- stored

pub held_store : (S : Slices) (w : Write) → Valid S w → Held S → Held (store S w)
held_store S w k h = by_field (λ f. Fits S f p v → Held (store_at S f p v))
    (λ q. record { arena = h.arena; lists = h.lists; tags = enter_under tag_words S.tags p (tag_word v) (tag_word_fits v q.1) h.tags; regions = h.regions })
    (λ q. record { arena = h.arena; lists = enter_under words S.lists (map_words + p) v q.1 h.lists; tags = h.tags; regions = h.regions })
    (λ q. record { arena = put_under S.arena (4 * p) v h.arena; lists = h.lists; tags = h.tags; regions = h.regions })
    (λ q. record { arena = put_under S.arena (4 * p + 1) v h.arena; lists = h.lists; tags = h.tags; regions = h.regions })
    (λ q. record { arena = h.arena; lists = mark_under S.lists p v h.lists; tags = h.tags; regions = h.regions })
    (λ q. h)
    (λ q. record { arena = h.arena; lists = h.lists; tags = h.tags; regions = enter_under words S.regions p v q.1 h.regions })
    (λ f q. h)
    w.field k
  where
    p : ℕ
    p = w.place

    v : ℕ
    v = w.value

pub held_stores : (S : Slices) (l : List Write) → AllValid S l → Held S → Held (stores S l)
held_stores S [] k h = h
held_stores S (w ∷ l) k h =
    held_stores (store S w) l (all_valid_keep S (store S w) l (store_lengths S w) k.1) (held_store S w k.0 h)
