-- What follows from specs/TableBit.antt.
use Rattle.std.specs.Prelude.{ℕ, ◌+◌, ◌*◌, ◌/◌, ◌%◌, ◌<◌, ◌≡◌, List, length}
use Rattle.std.proofs.Common.{arith, sym, ◌∙◌}
use Rattle.std.proofs.Math.Path.{ap}
use Rattle.std.proofs.Math.Logic.{⊎_elim}
use Rattle.choice.specs.Choice.{same?}
use Rattle.table.specs.Table.{entry, enter, enter_length, entry_enter, entry_other}
use Rattle.bits.specs.Bit.{bit, set_bit, clear_bit}
use Rattle.bits.proofs.Bit.{bit_lt, set_bit_same, set_bit_other, clear_bit_same, clear_bit_other}
use Rattle.bits.specs.TableBit.{table_bit, set_table_bit, clear_table_bit}

-- it is 0 or 1
pub table_bit_lt : (t : List ℕ) (k : ℕ) → table_bit t k < 2
unfolding table_bit
table_bit_lt t k = bit_lt (entry t (k / 64)) (k % 64)

-- bit j of entry i
pub table_bit_at : (t : List ℕ) (i j : ℕ) → j < 64 → table_bit t (64 * i + j) ≡ bit (entry t i) j
unfolding table_bit
table_bit_at t i j h =
    let a : (64 * i + j) / 64 ≡ i = omega arith in
    let b : (64 * i + j) % 64 ≡ j = omega arith in
    rw (a, b)

-- another number at entry i leaves the bits of the other entries alone
pub table_bit_enter : (t : List ℕ) (i v k : ℕ) → (i ≡ k / 64 → ⊥) → table_bit (enter t i v) k ≡ table_bit t k
unfolding table_bit
table_bit_enter t i v k ne = ap (λ (x : ℕ). bit x (k % 64)) (entry_other t i v (k / 64) ne)

-- setting or clearing a bit keeps the length
pub set_table_length : (t : List ℕ) (k : ℕ) → length (set_table_bit t k) ≡ length t
unfolding set_table_bit
set_table_length t k = enter_length t (k / 64) (set_bit (entry t (k / 64)) (k % 64))

pub clear_table_length : (t : List ℕ) (k : ℕ) → length (clear_table_bit t k) ≡ length t
unfolding clear_table_bit
clear_table_length t k = enter_length t (k / 64) (clear_bit (entry t (k / 64)) (k % 64))

-- and every other entry
pub set_table_entry : (t : List ℕ) (k j : ℕ) → (k / 64 ≡ j → ⊥) → entry (set_table_bit t k) j ≡ entry t j
unfolding set_table_bit
set_table_entry t k j ne = entry_other t (k / 64) (set_bit (entry t (k / 64)) (k % 64)) j ne

pub clear_table_entry : (t : List ℕ) (k j : ℕ) → (k / 64 ≡ j → ⊥) → entry (clear_table_bit t k) j ≡ entry t j
unfolding clear_table_bit
clear_table_entry t k j ne = entry_other t (k / 64) (clear_bit (entry t (k / 64)) (k % 64)) j ne

module _ (t : List ℕ) (k : ℕ) (room : k < 64 * length t) where
  -- entry k / 64 became w
  became : (w : ℕ) → entry (enter t (k / 64) w) (k / 64) ≡ w
  became w = entry_enter t (k / 64) w (omega arith)

  -- and w has all its other bits from before: then so has the table
  others :
      (w : ℕ) → ((i : ℕ) → (k % 64 ≡ i → ⊥) → bit w i ≡ bit (entry t (k / 64)) i)
      → (j : ℕ) → (k ≡ j → ⊥) → table_bit (enter t (k / 64) w) j ≡ table_bit t j
  unfolding table_bit
  others w kept j ne = ⊎_elim
      (λ (e : k / 64 ≡ j / 64).
      let q : bit w (j % 64) ≡ bit (entry t (k / 64)) (j % 64) = kept (j % 64) (λ p. ne (omega arith)) in
      ap (λ (x : ℕ). bit (entry (enter t (k / 64) w) x) (j % 64)) (sym e)
      ∙ ap (λ (x : ℕ). bit x (j % 64)) (became w)
      ∙ q
      ∙ ap (λ (x : ℕ). bit (entry t x) (j % 64)) e)
      (λ (n : k / 64 ≡ j / 64 → ⊥). ap (λ (x : ℕ). bit x (j % 64)) (entry_other t (k / 64) w (j / 64) n))
      (same? (k / 64) (j / 64))

  -- the bit set is set
  pub set_table_same : table_bit (set_table_bit t k) k ≡ 1
  unfolding table_bit set_table_bit
  set_table_same =
      ap (λ (x : ℕ). bit x (k % 64)) (became (set_bit (entry t (k / 64)) (k % 64))) ∙ set_bit_same (entry t (k / 64)) (k % 64)

  -- every other bit is as it was
  pub set_table_other : (j : ℕ) → (k ≡ j → ⊥) → table_bit (set_table_bit t k) j ≡ table_bit t j
  unfolding set_table_bit
  set_table_other = others (set_bit (entry t (k / 64)) (k % 64)) (set_bit_other (entry t (k / 64)) (k % 64))

  -- the bit cleared is cleared
  pub clear_table_same : table_bit (clear_table_bit t k) k ≡ 0
  unfolding table_bit clear_table_bit
  clear_table_same =
      ap (λ (x : ℕ). bit x (k % 64)) (became (clear_bit (entry t (k / 64)) (k % 64)))
      ∙ clear_bit_same (entry t (k / 64)) (k % 64)

  -- every other bit is as it was
  pub clear_table_other : (j : ℕ) → (k ≡ j → ⊥) → table_bit (clear_table_bit t k) j ≡ table_bit t j
  unfolding clear_table_bit
  clear_table_other = others (clear_bit (entry t (k / 64)) (k % 64)) (clear_bit_other (entry t (k / 64)) (k % 64))
