-- The tables after init (`Initial`), and its law: with any arena they are the memory of a heap to which nothing was given.
use Rattle.std.specs.Prelude.{ℕ, ◌+◌, ◌/◌, ◌^◌, ◌≤◌, ◌<◌, ◌≡◌, refl, List, length}
use Rattle.std.proofs.Math.Nat.{zero-div}
use Rattle.std.proofs.Common.{arith, ◌∙◌}
use Rattle.std.proofs.Math.Path.{ap}
use Rattle.std.proofs.Math.Logic.{⊎_elim}
use Rattle.std.proofs.Math.ListN.{get_or-eq_default}
use Rattle.choice.specs.Choice.{eq_yes, le?}
use Rattle.table.specs.Table.{entry, enter, entry_enter}
use Rattle.bits.specs.Bit.{bit}
use Rattle.bits.specs.TableBit.{table_bit}
use Rattle.bits.specs.Map.{map_words, map_bit}
use Rattle.bits.proofs.Map.{map_bit_is, map_bit_none}
use Rattle.bits.specs.Map.{lists as list_count}
use Rattle.definition.specs.Calls.{empty}
use Rattle.script.specs.Memory.{root, none}
use Rattle.sound.specs.Sound.{Sound}
use Rattle.sound.proofs.Fresh.{fresh}
use Rattle.slices.specs.Decode.{link_of, head_bytes, top_of, grains}
use Rattle.slices.proofs.Decode.{grains_none, wide_8}
use Rattle.slices.specs.Heads.{head_at}
use Rattle.slices.proofs.Heads.{head_in, head_out, next_root}
use Rattle.slices.specs.Slices.{Slices, memory_of}
use Rattle.slices.proofs.Slices.{memory_next, memory_mark, memory_live, memory_table}
use Rattle.tables.specs.Fill.{filled, filled_length, filled_in, filled_below}

-- the table of the lists with nothing in the map and no head that leads anywhere
unfoldable pub empty_lists : List ℕ → List ℕ
empty_lists t = filled (filled t 0 map_words 0) map_words list_count (top_of head_bytes)

-- the tables after init, and before it
pub record Initial (lists₀ live₀ regions₀ lists live regions : List ℕ) : Type 0 where
  pub heads : lists ≡ empty_lists lists₀
  pub bits : live ≡ filled live₀ 0 (length live₀) 0
  pub count : regions ≡ enter regions₀ 0 0

-- ---- tables of zeros

-- behind its end a table says 0
entry_out : (t : List ℕ) (i : ℕ) → length t ≤ i → entry t i ≡ 0
unfolding entry
entry_out t i h = get_or-eq_default t 0 h

-- the bits of an entry that is 0 are 0
bit_none : (t : List ℕ) (k : ℕ) → entry t (k / 64) ≡ 0 → table_bit t k ≡ 0
unfolding table_bit bit
bit_none t k e = rw (e, zero-div)

-- a table filled with zeros has no bit
zeros : (t : List ℕ) (k : ℕ) → table_bit (filled t 0 (length t) 0) k ≡ 0
zeros t k = bit_none (filled t 0 (length t) 0) k (⊎_elim
    (λ (h : length t ≤ k / 64). entry_out (filled t 0 (length t) 0) (k / 64) (omega (arith, filled_length t 0 (length t) 0)))
    (λ (h : k / 64 < length t). filled_in t 0 (length t) 0 (k / 64) (omega arith) (omega arith) (omega arith))
    (le? (length t) (k / 64)))

-- ---- the empty lists

module _ (t : List ℕ) (room : map_words + list_count ≤ length t) where
  -- the length stays
  pub empty_length : length (empty_lists t) ≡ length t
  unfolding empty_lists
  empty_length = filled_length (filled t 0 map_words 0) map_words list_count (top_of head_bytes) ∙ filled_length t 0 map_words 0

  -- no list is marked
  no_mark : (k : ℕ) → map_bit (empty_lists t) k ≡ 0
  unfolding empty_lists
  no_mark k = ⊎_elim
      (λ (h : list_count ≤ k). map_bit_none (empty_lists t) k h)
      (λ (h : k < list_count). map_bit_is (empty_lists t) k h ∙ bit_none (empty_lists t) k
      (filled_below (filled t 0 map_words 0) map_words list_count (top_of head_bytes) (k / 64) (omega arith)
      ∙ filled_in t 0 map_words 0 (k / 64) (omega arith) (omega arith) (omega arith)))
      (le? list_count k)

  -- no head leads anywhere, whatever a grain has of bytes and the arena of grains
  no_head : (u n k : ℕ) → head_at u n (empty_lists t) k ≡ none
  unfolding empty_lists link_of
  no_head u n k = ⊎_elim
      (λ (h : list_count ≤ k). head_out u n (empty_lists t) k h)
      (λ (h : k < list_count). head_in u n (empty_lists t) k h
      ∙ ap (link_of u n (top_of head_bytes)) (filled_in (filled t 0 map_words 0) map_words list_count (top_of head_bytes) (map_words + k)
      (omega (arith, filled_length t 0 map_words 0)) (omega arith) (omega arith))
      ∙ eq_yes (top_of head_bytes) (top_of head_bytes) _ _ refl)
      (le? list_count k)

-- ---- the empty heap

-- after init the slices stand for the heap to which nothing was given
pub init_sound : (S : Slices) (lists₀ live₀ regions₀ : List ℕ) → length S.arena < 2 ^ 64 → map_words + list_count ≤ length lists₀ → 1 ≤ length regions₀
    → Initial lists₀ live₀ regions₀ S.lists S.live S.regions
    → Sound (grains 8 S.arena) 12 (memory_of 8 S) (empty (grains 8 S.arena))
init_sound S lists₀ live₀ regions₀ short room some i = fresh (grains 8 S.arena) 12 (memory_of 8 S) (grains_none (wide_8 S.arena short))
    (λ k. memory_next 8 S (root k) ∙ next_root 8 S.arena S.lists k ∙ rw i.heads (no_head lists₀ room 32 (grains 8 S.arena) k))
    (λ k. memory_mark 8 S k ∙ rw i.heads (no_mark lists₀ room k))
    (λ q. memory_live 8 S q ∙ rw i.bits (zeros live₀ q))
    (memory_table 8 S 0 ∙ rw i.count (entry_enter regions₀ 0 0 some))
