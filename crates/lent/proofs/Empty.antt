-- What follows from specs/Empty.antt.
use Rattle.std.specs.Prelude.{ℕ, zero, suc, ◌+◌, ◌*◌, ◌/◌, ◌≤◌, ◌<◌, ◌≡◌, List, []}
use Rattle.std.proofs.Math.Nat.{zero-div}
use Rattle.std.proofs.Common.{arith, ap, sym, ◌∙◌, inl, ⊎_elim}
use Rattle.choice.specs.Choice.{le?}
use Rattle.table.specs.Table.{entry}
use Rattle.bits.specs.Bit.{bit}
use Rattle.bits.specs.TableBit.{table_bit}
use Rattle.bits.specs.Map.{map_bit}
use Rattle.bits.proofs.Map.{map_bit_is, map_bit_none}
use Rattle.definition.specs.Blocks.{used, gap, total, gaps}
use Rattle.definition.specs.Calls.{empty}
use Rattle.invariants.specs.Order.{BlockAt}
use Rattle.invariants.specs.Gaps.{total_gaps}
use Rattle.invariants.proofs.Gaps.{gap_used, gaps_at, gaps_cases}
use Rattle.script.specs.Memory.{Memory, Mark, Table}
use Rattle.sound.proofs.Fresh.{empty_ok}
use Rattle.machine.specs.Machine.{word_bytes, classes}
use Rattle.machine.specs.Machine.{lists as list_count}
use Rattle.tags.specs.Tag.{Tag, Tagged}
use Rattle.armour.specs.Row.{Sound}
use Rattle.lent.specs.Slices.{Slices, grains, tag_of, memory_of}
use Rattle.lent.proofs.Fields.{memory_tag, memory_mark, memory_table}
use Rattle.lent.specs.Held.{Under}

-- ---- the empty heap

-- nothing is in use in it
pub empty_unused : (n x s d : ℕ) → BlockAt x (used s d) 0 (empty n).blocks → ⊥
unfolding empty
empty_unused n x s d h = ⊎_elim (λ (i : (0 ≤ x) × (x < 0 + n) × (gap ≡ used s d)). gap_used (sym i.2)) (λ (i : ⊥). i) (gaps_cases n x 0 (used s d) [] h)

-- no tag, no mark and no region are enough, whatever the arena and the heads hold
pub empty_sound : (n c : ℕ) (m : Memory) → ((y : ℕ) → m Tag y ≡ 0) → ((k : ℕ) → m Mark k ≡ 0) → m Table 0 ≡ 0 → Sound n c m (empty n)
unfolding empty
empty_sound n c m tags marks table = record {
  row = record {
    order = (empty_ok c n).order;
    short = (empty_ok c n).short;
    whole = whole;
    tags = blank 0 n;
    given = record {
      sane = λ i h. absurd (omega (arith, table));
      either = λ y h. inl (gaps_at n y 0 [] (omega arith) (omega (arith, whole)));
      never = λ y h t. omega (arith, table, t.1);
    };
  };
  exact = (empty_ok c n).exact;
  strung = marks;
  guarded = λ x s d h. absurd (empty_unused n x s d h);
}
  where
    whole : total (gaps n []) ≡ n
    whole = omega (arith, total_gaps n [])

    blank : (x k : ℕ) → Tagged (m Tag) x (gaps k [])
    blank x zero = tt
    blank x (suc k) = ((λ i h. tags (x + i)), blank (x + 1) k)

-- ---- slices

-- the tag that 0 stands for
zero_tag : tag_of 0 ≡ 0
unfolding tag_of
zero_tag = omega arith

-- a table of zeros has no bit, and so no mark
bit_none : (t : List ℕ) → ((i : ℕ) → entry t i ≡ 0) → (k : ℕ) → table_bit t k ≡ 0
unfolding table_bit bit
bit_none t z k = rw (z (k / (8 * word_bytes)), zero-div)

mark_none : (t : List ℕ) → ((i : ℕ) → entry t i ≡ 0) → (k : ℕ) → map_bit t k ≡ 0
mark_none t z k = ⊎_elim (λ (h : list_count ≤ k). map_bit_none t k h) (λ (h : k < list_count). map_bit_is t k h ∙ bit_none t z k) (le? list_count k)

-- slices without a tag, a mark and a region
pub zeros_sound : (S : Slices) → ((y : ℕ) → entry S.tags y ≡ 0) → ((i : ℕ) → entry S.lists i ≡ 0) → entry S.regions 0 ≡ 0
    → Sound (grains S.arena) classes (memory_of S) (empty (grains S.arena))
zeros_sound S tags lists table = empty_sound (grains S.arena) classes (memory_of S)
    (λ y. memory_tag S y ∙ ap tag_of (tags y) ∙ zero_tag)
    (λ k. memory_mark S k ∙ mark_none S.lists lists k)
    (memory_table S 0 ∙ table)

-- zeros are less than any bound that there is
pub zeros_under : (b : ℕ) (t : List ℕ) → 1 ≤ b → ((i : ℕ) → entry t i ≡ 0) → Under b t
unfolding entry
zeros_under b t p z i = omega (arith, z i)
