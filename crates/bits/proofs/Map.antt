-- What follows from specs/Map.antt.
use Rattle.std.specs.Prelude.{ℕ, ◌*◌, ◌/◌, ◌%◌, ◌≤◌, ◌<◌, ◌≡◌, List, length}
use Rattle.std.proofs.Common.{arith, ap, sym, ◌∙◌, ⊎_elim}
use Rattle.choice.specs.Choice.{if_eq, eq_yes, eq_no, le_yes, le_no, le?, le_case, same?, upd, upd_same, upd_other}
use Rattle.table.specs.Table.{entry, enter, enter_own}
use Rattle.bits.specs.Bit.{clear_bit}
use Rattle.bits.specs.TableBit.{table_bit, set_table_bit, clear_table_bit}
use Rattle.bits.proofs.TableBit.{table_bit_lt, table_bit_enter, set_table_length, set_table_same, set_table_other, set_table_entry, clear_table_length, clear_table_same, clear_table_other, clear_table_entry}
use Rattle.bits.specs.Map.{map_words, lists, map_bit, mark_bit, unmark_bit}

-- the word m of list k, stored with its bit cleared where w is n, or as it is
pub unmark_where : (t : List ℕ) (k w n m v : ℕ) → m ≡ entry t (k / 64) → v ≡ if_eq w n (clear_bit m (k % 64)) m → enter t (k / 64) v ≡ if_eq w n (unmark_bit t k) t
unfolding unmark_bit clear_table_bit
unmark_where t k w n m v e q = ⊎_elim
    (λ (h : w ≡ n). ap (enter t (k / 64)) (q ∙ eq_yes w n _ _ h ∙ ap (λ (z : ℕ). clear_bit z (k % 64)) e) ∙ sym (eq_yes w n _ _ h))
    (λ (h : w ≡ n → ⊥). ap (enter t (k / 64)) (q ∙ eq_no w n _ _ h ∙ e) ∙ enter_own t (k / 64) ∙ sym (eq_no w n _ _ h))
    (same? w n)

-- a list is marked or not
pub map_bit_lt : (t : List ℕ) (k : ℕ) → map_bit t k < 2
unfolding map_bit
map_bit_lt t k = le_case (λ (x : ℕ). x < 2) lists k 0 (table_bit t k) (λ h. omega arith) (λ h. table_bit_lt t k)

-- what is no list is not marked
pub map_bit_none : (t : List ℕ) (k : ℕ) → lists ≤ k → map_bit t k ≡ 0
unfolding map_bit
map_bit_none t k h = le_yes lists k 0 (table_bit t k) h

-- the bit of a list, as this crate's code finds it
pub map_bit_is : (t : List ℕ) (k : ℕ) → k < lists → map_bit t k ≡ table_bit t k
unfolding map_bit
map_bit_is t k h = le_no lists k 0 (table_bit t k) (λ q. omega arith)

-- writing an entry behind the map leaves it alone
pub map_bit_enter : (t : List ℕ) (i v k : ℕ) → map_words ≤ i → map_bit (enter t i v) k ≡ map_bit t k
map_bit_enter t i v k h = ⊎_elim
    (λ (p : lists ≤ k). map_bit_none (enter t i v) k p ∙ sym (map_bit_none t k p))
    (λ (p : k < lists). map_bit_is (enter t i v) k p ∙ table_bit_enter t i v k (λ e. omega arith) ∙ sym (map_bit_is t k p))
    (le? lists k)

module _ (t : List ℕ) (k : ℕ) where
  -- marking and unmarking keep the length
  pub mark_length : length (mark_bit t k) ≡ length t
  unfolding mark_bit
  mark_length = set_table_length t k

  pub unmark_length : length (unmark_bit t k) ≡ length t
  unfolding unmark_bit
  unmark_length = clear_table_length t k

  -- and every entry behind the map
  pub mark_entry : k < lists → (j : ℕ) → map_words ≤ j → entry (mark_bit t k) j ≡ entry t j
  unfolding mark_bit
  mark_entry h j l = set_table_entry t k j (λ e. omega arith)

  pub unmark_entry : k < lists → (j : ℕ) → map_words ≤ j → entry (unmark_bit t k) j ≡ entry t j
  unfolding unmark_bit
  unmark_entry h j l = clear_table_entry t k j (λ e. omega arith)

  module _ (room : map_words ≤ length t) (h : k < lists) where
    fits : k < 64 * length t
    fits = omega arith

    -- a table whose bits but k are the same has the same map but at k
    same_map :
        (u : List ℕ) → ((j : ℕ) → (k ≡ j → ⊥) → table_bit u j ≡ table_bit t j)
        → (j : ℕ) → (k ≡ j → ⊥) → map_bit u j ≡ map_bit t j
    same_map u same j ne = ⊎_elim
        (λ (p : lists ≤ j). map_bit_none u j p ∙ sym (map_bit_none t j p))
        (λ (p : j < lists). map_bit_is u j p ∙ same j ne ∙ sym (map_bit_is t j p))
        (le? lists j)

    -- the list marked is marked
    pub mark_same : map_bit (mark_bit t k) k ≡ 1
    unfolding mark_bit
    mark_same = map_bit_is (set_table_bit t k) k h ∙ set_table_same t k fits

    -- every other is as it was
    pub mark_other : (j : ℕ) → (k ≡ j → ⊥) → map_bit (mark_bit t k) j ≡ map_bit t j
    unfolding mark_bit
    mark_other = same_map (set_table_bit t k) (set_table_other t k fits)

    -- the list unmarked is not marked
    pub unmark_same : map_bit (unmark_bit t k) k ≡ 0
    unfolding unmark_bit
    unmark_same = map_bit_is (clear_table_bit t k) k h ∙ clear_table_same t k fits

    -- every other is as it was
    pub unmark_other : (j : ℕ) → (k ≡ j → ⊥) → map_bit (unmark_bit t k) j ≡ map_bit t j
    unfolding unmark_bit
    unmark_other = same_map (clear_table_bit t k) (clear_table_other t k fits)

    -- the two together: the map is the old one but for list k
    pub mark_is_lem : (j : ℕ) → map_bit (mark_bit t k) j ≡ upd (map_bit t) k 1 j
    mark_is_lem j = ⊎_elim
        (λ (e : k ≡ j). ap (map_bit (mark_bit t k)) (sym e) ∙ mark_same ∙ sym (upd_same (map_bit t) k 1 j (sym e)))
        (λ (n : k ≡ j → ⊥). mark_other j n ∙ sym (upd_other (map_bit t) k 1 j (λ e. n (sym e))))
        (same? k j)

    pub unmark_is : (j : ℕ) → map_bit (unmark_bit t k) j ≡ upd (map_bit t) k 0 j
    unmark_is j = ⊎_elim
        (λ (e : k ≡ j). ap (map_bit (unmark_bit t k)) (sym e) ∙ unmark_same ∙ sym (upd_same (map_bit t) k 0 j (sym e)))
        (λ (n : k ≡ j → ⊥). unmark_other j n ∙ sym (upd_other (map_bit t) k 0 j (λ e. n (sym e))))
        (same? k j)
