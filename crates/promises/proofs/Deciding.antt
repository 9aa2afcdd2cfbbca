-- T3 on slices: the words that a script reads, and the map where it searches it, decide what it answers.
use Prim.Native.Nat.{ℕ, zero, suc, ◌*◌, ◌/◌, ◌≤◌, ◌<◌}
use Rattle.std.proofs.Common.{arith, sym, ◌∙◌, ⊎_elim}
use Rattle.std.specs.Prelude.{◌≡◌, List, [], ◌∷◌, length}
use Rattle.std.proofs.Math.Path.{refl, ap}
use Rattle.choice.specs.Choice.{le?}
use Rattle.table.specs.Table.{entry}
use Rattle.bits.specs.First.{first_set}
use Rattle.bits.proofs.First.{first_agree}
use Rattle.bits.specs.TableBit.{table_bit}
use Rattle.bits.proofs.Map.{map_bit_is, map_bit_none}
use Rattle.script.specs.Memory.{Memory, Mark}
use Rattle.script.specs.Script.{Script, read, first, done, stop, run, AtMost}
use Rattle.machine.specs.Machine.{word_bytes, classes, map_words}
use Rattle.machine.specs.Machine.{lists as list_count}
use Rattle.plans.specs.Calls.{Call, script_of}
use Rattle.lent.specs.Slices.{Slices, memory_of}
use Rattle.lent.proofs.Fields.{memory_mark}
use Rattle.lent.proofs.Kept.{grains_keep}
use Rattle.promises.specs.Performs.{grains_of, most_of}
use Rattle.promises.specs.Terms.{Word, AgreeOn, SameMap, Decided}

-- the marks are the same where the map is searched
abbrev Marks : ℕ → Memory → Memory → Type 0
Marks zero m d = Unit {0}
Marks (suc i) m d = (y : ℕ) → d Mark y ≡ m Mark y

fewer_marks : (i : ℕ) (m d : Memory) → Marks (suc i) m d → Marks i m d
fewer_marks zero m d h = tt
fewer_marks (suc i) m d h = h

module _ {A : Type 0} where
  -- the words that the script reads one by one
  abbrev trail : Memory → Script A → List Word
  trail m (read f x k) = record { field = f; place = x } ∷ trail m (k (m f x))
  trail m (first n x k) = trail m (k (first_set (m Mark) n x))
  trail m (done a) = []
  trail m (stop r) = []

  trail_few : (m : Memory) (i : ℕ) (s : Script A) (n : ℕ) → AtMost i s n → length (trail m s) ≤ n
  trail_few m i (read f x k) zero h = absurd h
  trail_few m i (read f x k) (suc n) h = omega (arith, trail_few m i (k (m f x)) n (h (m f x)))
  trail_few m zero (first l x k) n h = absurd h
  trail_few m (suc i) (first l x k) n h = trail_few m i (k (first_set (m Mark) l x)) n (h (first_set (m Mark) l x))
  trail_few m i (done a) n h = omega arith
  trail_few m i (stop r) n h = omega arith

  decides : (S Q : Slices) (i : ℕ) (s : Script A) (n : ℕ) → AtMost i s n → AgreeOn (trail (memory_of S) s) S Q → Marks i (memory_of S) (memory_of Q) → run (memory_of Q) s ≡ run (memory_of S) s
  unfolding run
  decides S Q i (read f x k) zero h a e = absurd h
  decides S Q i (read f x k) (suc n) h a e = ap (λ (v : ℕ). run (memory_of Q) (k v)) a.0 ∙ decides S Q i (k (memory_of S f x)) n (h (memory_of S f x)) a.1 e
  decides S Q zero (first l x k) n h a e = absurd h
  decides S Q (suc i) (first l x k) n h a e =
      ap (λ (v : ℕ). run (memory_of Q) (k v)) (first_agree (memory_of Q Mark) (memory_of S Mark) l x (λ j _ _. e j))
      ∙ decides S Q i (k (first_set (memory_of S Mark) l x)) n (h (first_set (memory_of S Mark) l x)) a (fewer_marks i (memory_of S) (memory_of Q) e)
  decides S Q i (done b) n h a e = refl
  decides S Q i (stop r) n h a e = refl

-- the words of the map tell the marks
bits_same : (t u : List ℕ) (k : ℕ) → entry u (k / (8 * word_bytes)) ≡ entry t (k / (8 * word_bytes)) → table_bit u k ≡ table_bit t k
unfolding table_bit
bits_same t u k e = rw e

marks_same : (S Q : Slices) → ((j : ℕ) → j < map_words → entry Q.lists j ≡ entry S.lists j) → (k : ℕ) → memory_of Q Mark k ≡ memory_of S Mark k
marks_same S Q h k = memory_mark Q k ∙ ⊎_elim
    (λ (n : list_count ≤ k). map_bit_none Q.lists k n ∙ sym (map_bit_none S.lists k n))
    (λ (n : k < list_count). map_bit_is Q.lists k n ∙ bits_same S.lists Q.lists k (h (k / (8 * word_bytes)) (omega arith)) ∙ sym (map_bit_is S.lists k n))
    (le? list_count k) ∙ sym (memory_mark S k)

map_marks : (i : ℕ) (S Q : Slices) → SameMap i S Q → Marks i (memory_of S) (memory_of Q)
map_marks zero S Q h = tt
map_marks (suc i) S Q h = marks_same S Q h

pub script_decided : (i n : ℕ) (S : Slices) (K : Call) → AtMost i (script_of (grains_of S) classes (most_of S) K) n → Decided i n S K
script_decided i n S K h = record {
  words = trail (memory_of S) (script_of (grains_of S) classes (most_of S) K);
  few = trail_few (memory_of S) i (script_of (grains_of S) classes (most_of S) K) n h;
  decide = λ Q e a m. rw (grains_keep S.arena Q.arena e.arena, e.regions) (decides S Q i (script_of (grains_of S) classes (most_of S) K) n h a (map_marks i S Q m));
}
