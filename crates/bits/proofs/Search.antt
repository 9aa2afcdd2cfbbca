-- What follows from specs/Search.antt.
use Rattle.std.specs.Prelude.{ℕ, ◌+◌, ◌-◌, ◌*◌, ◌/◌, ◌%◌, ◌^◌, ◌≤◌, ◌<◌, ◌≡◌, refl, List, Option, Some, None, MatchOption}
use Rattle.std.proofs.Common.{arith, ap, sym, ◌∙◌}
use Rattle.std.specs.Int.Count.{count_trailing_zeros}
use Rattle.table.specs.Table.{entry}
use Rattle.bits.specs.Bit.{bit}
use Rattle.bits.specs.First.{first_set, Finds}
use Rattle.bits.proofs.First.{first_most, first_found, first_on, first_shift}
use Rattle.bits.proofs.Zeros.{none_left, some_left}
use Rattle.bits.proofs.TableBit.{table_bit_at}
use Rattle.bits.specs.Map.{map_words, lists, map_bit}
use Rattle.bits.proofs.Map.{map_bit_is}
use Rattle.bits.specs.Search.{in_word, first_marked}

-- a word's bits are a part of the map
word_is_lem : (t : List ℕ) (i b : ℕ) → i < map_words → b < 64 → first_set (map_bit t) (64 - b) (64 * i + b) ≡ 64 * i + in_word t i b
word_is_lem t i b h l = first_shift (map_bit t) (bit (entry t i)) (64 * i) (64 - b) b (λ j a c.
    map_bit_is t (64 * i + j) (omega arith) ∙ table_bit_at t i j (omega arith))

-- the first marked list of k's word m from k on, where w is the first bit set of m from k's place on
pub of_word : (t : List ℕ) (k m w : ℕ) → k < lists → m ≡ entry t (k / 64) → w ≡ first_set (bit m) (64 - k % 64) (k % 64) → 64 * (k / 64) + w ≡ first_set (map_bit t) (64 - k % 64) k
of_word t k m w h e f =
    let q : 64 * (k / 64) + k % 64 ≡ k = omega arith in
    ap (λ (x : ℕ). 64 * (k / 64) + x) (f ∙ ap (λ (x : ℕ). first_set (bit x) (64 - k % 64) (k % 64)) e)
    ∙ sym (word_is_lem t (k / 64) (k % 64) (omega arith) (omega arith))
    ∙ ap (first_set (map_bit t) (64 - k % 64)) q

-- what k's word answers is the answer, or that of the words behind it is
pub goes_on :
    (t : List ℕ) (k : ℕ) (r s : Option ℕ) (P : Type 0) → k < lists
    → Finds (64 * (k / 64 + 1)) r (first_set (map_bit t) (64 - k % 64) k)
    → MatchOption r P (λ x. s ≡ Some x)
    → (P → Finds lists s (first_marked t (64 * (k / 64 + 1))))
    → Finds lists s (first_marked t k)
goes_on t k None s P h f g behind =
    let q : lists - k ≡ 64 - k % 64 + (lists - 64 * (k / 64 + 1)) = omega arith in
    let p : k + (64 - k % 64) ≡ 64 * (k / 64 + 1) = omega arith in
    let on : first_marked t (64 * (k / 64 + 1)) ≡ first_marked t k =
    sym (rw q (first_on (map_bit t) (64 - k % 64) (lists - 64 * (k / 64 + 1)) k (sym f.0 ∙ sym p) ∙ rw p)) in
    ((behind g).0 ∙ on, (behind g).1)
goes_on t k (Some x) s P h f g behind =
    let q : lists - k ≡ 64 - k % 64 + (lists - 64 * (k / 64 + 1)) = omega arith in
    let found : x ≡ first_marked t k =
    f.0 ∙ sym (rw q (first_found (map_bit t) (64 - k % 64) (lists - 64 * (k / 64 + 1)) k (omega (arith, f.0, f.1)))) in
    rw g (found, omega (arith, f.1))

-- the places from k on are those of its word and those behind it
places : (i b : ℕ) → i < map_words → b < 64 → lists - (64 * i + b) ≡ 64 - b + (lists - 64 * (i + 1))
places i b h l = omega arith

-- the word has one
found : (t : List ℕ) (i b : ℕ) → i < map_words → b < 64 → in_word t i b < 64 → 64 * i + in_word t i b ≡ first_marked t (64 * i + b)
found t i b h l f =
    let e = word_is_lem t i b h l in
    sym (rw (places i b h l) (first_found (map_bit t) (64 - b) (lists - 64 * (i + 1)) (64 * i + b) (omega arith) ∙ e))

-- the word has none
passed : (t : List ℕ) (i b : ℕ) → i < map_words → b < 64 → in_word t i b ≡ 64 → first_marked t (64 * (i + 1)) ≡ first_marked t (64 * i + b)
passed t i b h l f =
    let e = word_is_lem t i b h l in
    let q : 64 * i + b + (64 - b) ≡ 64 * (i + 1) = omega arith in
    sym (rw (places i b h l) (first_on (map_bit t) (64 - b) (lists - 64 * (i + 1)) (64 * i + b) (omega arith) ∙ rw q))

-- the first marked list from k on, where k's word has one
pub found_at : (t : List ℕ) (k r : ℕ) → k < lists → r ≡ in_word t (k / 64) (k % 64) → r < 64 → 64 * (k / 64) + r ≡ first_marked t k
found_at t k r h e l =
    let q : 64 * (k / 64) + k % 64 ≡ k = omega arith in
    ap (λ (x : ℕ). 64 * (k / 64) + x) e ∙ found t (k / 64) (k % 64) (omega arith) (omega arith) (omega arith) ∙ ap (first_marked t) q

-- where k's word i has none, the answer is that of the words behind it
pub passed_to :
    (t : List ℕ) (k r i n : ℕ) → k < lists → r ≡ in_word t (k / 64) (k % 64) → 64 ≤ r → k / 64 ≡ i
    → n ≡ first_marked t (64 * (i + 1)) → n ≡ first_marked t k
passed_to t k r i n h e l f g =
    let q : 64 * (k / 64) + k % 64 ≡ k = omega arith in
    let m = first_most (bit (entry t (k / 64))) (64 - k % 64) (k % 64) in
    g ∙ ap (λ (x : ℕ). first_marked t (64 * (x + 1))) (sym f)
    ∙ passed t (k / 64) (k % 64) (omega arith) (omega arith) (omega arith) ∙ ap (first_marked t) q

-- the same by what the code sees: what is left of k's word m, shifted down to k's place, is 0 or not
pub left_some :
    (t : List ℕ) (k m : ℕ) → k < lists → m ≡ entry t (k / 64) → m < 2 ^ 64 → (m / 2 ^ (k % 64) ≡ 0 → ⊥)
    → (count_trailing_zeros 64 (m / 2 ^ (k % 64)) < 64) × (k + count_trailing_zeros 64 (m / 2 ^ (k % 64)) ≡ first_marked t k)
left_some t k m h e f ne =
    let b = k % 64 in
    let z = count_trailing_zeros 64 (m / 2 ^ b) in
    let s = some_left m b (omega arith) f ne in
    let q : k + z ≡ 64 * (k / 64) + (b + z) = omega arith in
    let r : b + z ≡ in_word t (k / 64) b = sym s.1 ∙ ap (λ (x : ℕ). first_set (bit x) (64 - b) b) e in
    (omega (arith, s.0), q ∙ found_at t k (b + z) h r s.0)

pub left_none :
    (t : List ℕ) (k m n : ℕ) → k < lists → m ≡ entry t (k / 64) → m / 2 ^ (k % 64) ≡ 0
    → n ≡ first_marked t (64 * (k / 64 + 1)) → n ≡ first_marked t k
left_none t k m n h e z g =
    let b = k % 64 in
    let r : 64 ≡ in_word t (k / 64) b = sym (none_left m b (omega arith) z) ∙ ap (λ (x : ℕ). first_set (bit x) (64 - b) b) e in
    passed_to t k 64 (k / 64) n h r (omega arith) refl g

-- behind the last word there is none
pub at_end_lem : (t : List ℕ) (k : ℕ) → lists ≤ k → k ≤ lists → lists ≡ first_marked t k
unfolding first_set
at_end_lem t k a b = let e : k ≡ lists = omega arith in rw e
