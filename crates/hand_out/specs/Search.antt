-- The search for a block, step by step: a list that is marked, its first block, and the head of the list that the rest enters.
use Rattle.std.specs.Prelude.{ℕ, suc, ◌-◌, ◌*◌, ◌≤◌, ◌<◌, ◌≡◌, refl, List}
use Rattle.std.proofs.Common.{arith, ◌∙◌}
use Rattle.std.proofs.Math.Path.{sym}
use Rattle.bits.specs.First.{first_set}
use Rattle.bits.proofs.First.{first_from, first_agree}
use Rattle.bits.specs.Map.{map_bit}
use Rattle.class.specs.Class.{list_of, start_of}
use Rattle.class.proofs.Class.{start_fits, start_large}
use Rattle.definition.specs.Calls.{wanted, place, keeps}
use Rattle.invariants.proofs.Placing.{keeps_wanted, wanted_some}
use Rattle.script.specs.Memory.{Memory, Mark}
use Rattle.script.specs.Script.{Script, ok, no, done, run, ◌>>=◌, get, unless_le, ◌>>◌}
use Rattle.script.proofs.Script.{searches, reads, goes, halts, gives_done, gives_le, halts_le}
use Rattle.machine.specs.Machine.{classes, piece}
use Rattle.machine.specs.Machine.{lists as list_count}
use Rattle.chains.specs.Links.{Head}
use Rattle.lent.specs.Slices.{grains, head_at}
use Rattle.lent.proofs.Fields.{memory_mark, memory_head}
use Rattle.plans.specs.Checks.{see_rest}
use Rattle.plans.specs.Allocate.{Taken, see_first, see_taken}
use Rattle.entries.specs.Answers.{slices, held}

-- ---- the parts of the script

-- the first list from k on that is marked
abbrev pub found : List ℕ → ℕ → ℕ
found l k = first_set (map_bit l) (list_count - k) k

-- once the first block, y, of list k is known to have s grains
unfoldable pub cut : ℕ → ℕ → ℕ → ℕ → ℕ → ℕ → Script Taken
cut n p u k y s = do
  see_rest n classes s (keeps (place u y) p)
  done (record { list = k; block = y; grains = s })

-- once list k is found
abbrev from_list : ℕ → ℕ → ℕ → ℕ → Script Taken
from_list n p u k = do
  unless_le 1 (suc k) (16 * classes)
  y ← get Head k
  s ← see_first n k y
  cut n p u k y s

-- ---- the search

module _ (a l t g : List ℕ) (p u : ℕ) where
  abbrev m : Memory
  m = held a l t g

  searched : (k : ℕ) → k ≡ found l (start_of (wanted p u)) → run m (see_taken (grains a) classes p u) ≡ run m (from_list (grains a) p u k)
  unfolding see_taken cut
  searched k e =
      let c = start_of (wanted p u) in
      searches m (list_count - c) c _ (first_agree (m Mark) (map_bit l) (list_count - c) c (λ j _ _. memory_mark (slices a l t g) j) ∙ sym e)

  -- no list has a block
  pub search_none : (k : ℕ) → k ≡ found l (start_of (wanted p u)) → list_count ≤ k → run m (see_taken (grains a) classes p u) ≡ no 1
  search_none k e h = searched k e ∙ halts m (unless_le 1 (suc k) (16 * classes)) _ (halts_le m 1 (suc k) (16 * classes) (omega arith))

  -- more is wanted than any list has
  pub search_large : 0 < u → piece ≤ wanted p u → run m (see_taken (grains a) classes p u) ≡ no 1
  search_large h w = search_none (found l (start_of (wanted p u))) refl
      (omega (arith, start_large (wanted p u) classes (omega arith) w, first_from (map_bit l) (list_count - start_of (wanted p u)) (start_of (wanted p u))))

  module _ (k : ℕ) (e : k ≡ found l (start_of (wanted p u))) (i : k < list_count) (y : ℕ) (f : y ≡ head_at l k) where
    first_next : run m (see_taken (grains a) classes p u) ≡ run m (see_first (grains a) k y >>= cut (grains a) p u k y)
    first_next =
        searched k e ∙ goes m (unless_le 1 (suc k) (16 * classes)) _ (gives_le m 1 (suc k) (16 * classes) (omega arith))
        ∙ reads m Head k _ (memory_head (slices a l t g) k ∙ sym f)

    -- its first block contradicts itself
    pub search_bad : (r : ℕ) → run m (see_first (grains a) k y) ≡ no r → run m (see_taken (grains a) classes p u) ≡ no r
    search_bad r h = first_next ∙ halts m (see_first (grains a) k y) _ h

    pub search_cut : (s : ℕ) → run m (see_first (grains a) k y) ≡ ok s → run m (see_taken (grains a) classes p u) ≡ run m (cut (grains a) p u k y s)
    search_cut s h = first_next ∙ goes m (see_first (grains a) k y) _ h

  -- ---- the rest

  module _ (k y s : ℕ) where
    pub cut_bad : (r : ℕ) → run m (see_rest (grains a) classes s (keeps (place u y) p)) ≡ no r → run m (cut (grains a) p u k y s) ≡ no r
    unfolding cut
    cut_bad r h = halts m (see_rest (grains a) classes s (keeps (place u y) p)) _ h

    pub cut_made : run m (see_rest (grains a) classes s (keeps (place u y) p)) ≡ ok (tt {0}) → run m (cut (grains a) p u k y s) ≡ ok (record { list = k; block = y; grains = s })
    unfolding cut
    cut_made h = goes m (see_rest (grains a) classes s (keeps (place u y) p)) _ h ∙ gives_done m _

-- a block of a list that was found is long enough
pub found_enough : (l : List ℕ) (p u k y s : ℕ) → 0 < u → 0 < s → k ≡ found l (start_of (wanted p u)) → list_of s ≡ k → keeps (place u y) p ≤ s
found_enough l p u k y s h q e f =
    let c = start_of (wanted p u) in
    omega (
      arith,
      keeps_wanted u y p h,
      start_fits (wanted p u) s (wanted_some p u h) q (omega (arith, e, f, first_from (map_bit l) (list_count - c) c)),
    )
