-- A mark that is put as it was changes nothing, so the mark of a list that a block leaves is cleared or left alone.
use Rattle.std.specs.Prelude.{ℕ, zero, suc, ◌+◌, ◌/◌, ◌%◌, ◌≤◌, ◌<◌, ◌≡◌, refl, List, eqb}
use Rattle.std.proofs.Common.{arith, sym, ◌∙◌, ⊎_elim}
use Rattle.std.proofs.Math.Path.{ap}
use Rattle.choice.specs.Choice.{if_eq, eq_yes, eq_no, eq_case, same?, le?}
use Rattle.table.specs.Table.{entry, enter, enter_own}
use Rattle.bits.specs.Bit.{bit, set_bit, clear_bit}
use Rattle.bits.proofs.Bit.{bit_zero, bit_suc, set_bit_same, set_bit_other, clear_bit_same, clear_bit_other}
use Rattle.bits.specs.TableBit.{table_bit, set_table_bit, clear_table_bit}
use Rattle.bits.specs.Map.{map_bit, mark_bit, unmark_bit}
use Rattle.bits.proofs.Map.{map_bit_is, map_bit_lt, map_bit_enter}
use Rattle.machine.specs.Machine.{map_words}
use Rattle.machine.specs.Machine.{lists as list_count}
use Rattle.chains.specs.Links.{mark_left}
use Rattle.lent.specs.Slices.{put_mark, head_at, put_head}
use Rattle.entries.specs.Answers.{chosen}
use Rattle.entries.specs.Seen.{chosen_is}

-- ---- a word

-- two numbers with the same bits are the same
same_bits : (f m n : ℕ) → m ≤ f → n ≤ f → ((j : ℕ) → bit m j ≡ bit n j) → m ≡ n
same_bits zero m n h k e = omega arith
same_bits (suc f) m n h k e =
    let q : m / 2 ≡ n / 2 = same_bits f (m / 2) (n / 2) (omega arith) (omega arith) (λ j. sym (bit_suc m j) ∙ e (suc j) ∙ bit_suc n j) in
    let z : m % 2 ≡ n % 2 = sym (bit_zero m) ∙ e 0 ∙ bit_zero n in
    omega arith

-- a number whose bits are those of m, and at i is the one that m has
as_it_was : (m n i v : ℕ) → bit m i ≡ v → bit n i ≡ v → ((j : ℕ) → (i ≡ j → ⊥) → bit n j ≡ bit m j) → n ≡ m
as_it_was m n i v e q o = ⊎_elim (λ h. same_bits m n m h (omega arith) all) (λ h. same_bits n n m (omega arith) (omega arith) all) (le? n m)
  where
    all : (j : ℕ) → bit n j ≡ bit m j
    all j = ⊎_elim (λ (z : i ≡ j). ap (bit n) (sym z) ∙ q ∙ sym e ∙ ap (bit m) z) (λ (z : i ≡ j → ⊥). o j z) (same? i j)

set_own : (m i : ℕ) → bit m i ≡ 1 → set_bit m i ≡ m
set_own m i e = as_it_was m (set_bit m i) i 1 e (set_bit_same m i) (set_bit_other m i)

clear_own : (m i : ℕ) → bit m i ≡ 0 → clear_bit m i ≡ m
clear_own m i e = as_it_was m (clear_bit m i) i 0 e (clear_bit_same m i) (clear_bit_other m i)

-- ---- the map

module _ (t : List ℕ) (k : ℕ) (h : k < list_count) where
  mark_own : map_bit t k ≡ 1 → mark_bit t k ≡ t
  unfolding mark_bit set_table_bit table_bit
  mark_own e = ap (enter t (k / 64)) (set_own (entry t (k / 64)) (k % 64) (sym (map_bit_is t k h) ∙ e)) ∙ enter_own t (k / 64)

  unmark_own : map_bit t k ≡ 0 → unmark_bit t k ≡ t
  unfolding unmark_bit clear_table_bit table_bit
  unmark_own e = ap (enter t (k / 64)) (clear_own (entry t (k / 64)) (k % 64) (sym (map_bit_is t k h) ∙ e)) ∙ enter_own t (k / 64)

  pub put_own_mark : (b : ℕ) → b ≡ map_bit t k → put_mark t k b ≡ t
  put_own_mark b e = eq_case (λ (u : List ℕ). u ≡ t) b 0 _ _ (λ z. unmark_own (sym e ∙ z)) (λ z. mark_own (omega (arith, z, map_bit_lt t k)))

  -- the mark that is left when y leaves: cleared if its next and its previous are y
  pub put_mark_left : (y x p b : ℕ) → b ≡ map_bit t k → put_mark t k (mark_left y x p b) ≡ if_eq (if_eq p y x p) y (unmark_bit t k) t
  put_mark_left y x p b e = ⊎_elim
      (λ (q : p ≡ y). ⊎_elim
      (λ (z : x ≡ y).
      ap (put_mark t k) (eq_yes x y _ _ z ∙ eq_yes p y _ _ q) ∙ eq_yes 0 0 _ _ refl ∙ sym (eq_yes _ y _ _ (eq_yes p y x p q ∙ z)))
      (λ (z : x ≡ y → ⊥).
      ap (put_mark t k) (eq_no x y _ _ z) ∙ put_own_mark b e ∙ sym (eq_no _ y _ _ (λ w. z (sym (eq_yes p y x p q) ∙ w))))
      (same? x y))
      (λ (q : p ≡ y → ⊥).
      ap (put_mark t k) (eq_case (λ (w : ℕ). w ≡ b) x y _ _ (λ _. eq_no p y _ _ q) (λ _. refl)) ∙ put_own_mark b e
      ∙ sym (eq_no _ y _ _ (λ w. q (sym (eq_no p y x p q) ∙ w))))
      (same? p y)

-- the lists after y left: M, with h as its head before, and w for whether it was alone
pub lists_left : (l L M : List ℕ) (k y x p h v w : ℕ) → k < list_count → h ≡ head_at l k → v ≡ chosen (eqb p y) x h → L ≡ put_head l k v
    → w ≡ chosen (eqb p y) x p → M ≡ if_eq w y (unmark_bit L k) L
    → M ≡ put_mark (put_head l k (if_eq p y x (head_at l k))) k (mark_left y x p (map_bit l k))
lists_left l L M k y x p h v w i h_is v_is LIs w_is MIs =
    MIs ∙ ap (λ (z : ℕ). if_eq z y (unmark_bit L k) L) (w_is ∙ chosen_is p y x p) ∙ sym (put_mark_left L k i y x p (map_bit l k) same)
    ∙ ap (λ (z : List ℕ). put_mark z k (mark_left y x p (map_bit l k))) (LIs ∙ ap (put_head l k) (v_is ∙ chosen_is p y x h ∙ ap (if_eq p y x) h_is))
  where
    same : map_bit l k ≡ map_bit L k
    same = sym (ap (λ (z : List ℕ). map_bit z k) LIs ∙ map_bit_enter l (map_words + k) v k (omega arith))
