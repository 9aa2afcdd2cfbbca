-- What follows from specs/Differs.antt.
use Prim.Native.Nat.{ℕ, suc, ◌+◌, ◌-◌, ◌*◌, ◌^◌, ◌≤◌, ◌<◌}
use native.Mathlib.Omega.{arith}
use Rattle.std.specs.Prelude.{◌≡◌, refl, List, [], ◌∷◌, ◌++◌, ◌⊎◌, length}
use Rattle.std.proofs.Math.Path.{sym, subst}
use Rattle.std.proofs.Common.{◌∙◌, inl, inr, take-append-drop}
use Rattle.std.proofs.Math.Logic.{⊎_elim}
use Rattle.std.proofs.Math.ListN.{get_or, get_or-eq_default}
use Rattle.choice.specs.Choice.{le?}
use Rattle.word.specs.Number.{Apart, num_same}
use Rattle.word.specs.Word.{word_at}
use Rattle.copy.specs.Moved.{moved, moved_arrived, moved_length}
use Rattle.copy.specs.Words.{word_kept}
use Rattle.script.specs.Memory.{Size, Before, Next, Prev, none, Write}
use Rattle.script.specs.Locality.{DiffersIn}
use Rattle.script.proofs.Locality.{same_after}
use Rattle.sound.specs.Plans.{Plan}
use Rattle.slices.specs.Decode.{wrong_link}
use Rattle.slices.proofs.Decode.{wide_8}
use Rattle.slices.specs.Slices.{Slices, memory_of, stores, AllValid}
use Rattle.slices.proofs.Fields.{by_field}
use Rattle.slices.specs.Kept.{Lengths}
use Rattle.slices.proofs.Kept.{stores_lengths, all_valid_keep}
use Rattle.slices.proofs.Stored.{stores_are}
use Rattle.carry.proofs.Alike.{stores_same_byte}
use Rattle.carry.specs.Words.{word}
use Rattle.carry.proofs.Words.{size_word, link_word_lem, next_root, next_word, field_word}
use Rattle.carry.specs.Carry.{shifted, first_writes, later_writes, carried, between}
use Rattle.carry.proofs.Carry.{between_lengths}
use Rattle.carry.specs.Differs.{SameBytes}

module _ (a b : List ℕ) (e : length b ≡ length a) (q z u : ℕ) (same : SameBytes a b q u) where
  -- the arenas after the move
  abbrev to : List ℕ → List ℕ
  to c = moved c (16 * q) (16 * z) (16 * u)

  -- what was moved is the same in both
  arrived : (i : ℕ) → i < 16 * u → get_or (to b) (16 * z + i) 0 ≡ get_or (to a) (16 * z + i) 0
  arrived i h = ⊎_elim
      (λ (k : suc (16 * z + i) ≤ length a). moved_arrived b (16 * q) (16 * z) (16 * u) i h (omega arith) ∙ same i h ∙ sym (moved_arrived a (16 * q) (16 * z) (16 * u) i h (omega arith)))
      (λ (k : length a < suc (16 * z + i)). get_or-eq_default (to b) 0 (omega (arith, moved_length b (16 * q) (16 * z) (16 * u)))
      ∙ sym (get_or-eq_default (to a) 0 (omega (arith, moved_length a (16 * q) (16 * z) (16 * u)))))
      (le? (suc (16 * z + i)) (length a))

  -- so is a word of it
  carries : (i : ℕ) → 16 * z ≤ 8 * i → 8 * i + 8 ≤ 16 * z + 16 * u → word_at 8 (to b) i ≡ word_at 8 (to a) i
  unfolding word_at
  carries i h k = num_same 8 (to b) (8 * i) (to a) (8 * i) (λ j l.
      let e : 16 * z + (8 * i + j - 16 * z) ≡ 8 * i + j = omega arith in
      subst (λ (x : ℕ). get_or (to b) x 0 ≡ get_or (to a) x 0) e (arrived (8 * i + j - 16 * z) (omega arith)))

  stays : (i : ℕ) → Apart (16 * z) (16 * u) (8 * i) 8 → (word_at 8 (to a) i ≡ word_at 8 a i) × (word_at 8 (to b) i ≡ word_at 8 b i)
  stays i h = (word_kept a (16 * q) (16 * z) (16 * u) 8 i h, word_kept b (16 * q) (16 * z) (16 * u) 8 i h)

  -- a word stays in both, or it was moved and is the same in both
  word_moved : (i : ℕ) → ((word_at 8 (to a) i ≡ word_at 8 a i) × (word_at 8 (to b) i ≡ word_at 8 b i)) ⊎ (word_at 8 (to b) i ≡ word_at 8 (to a) i)
  word_moved i = ⊎_elim
      (λ (h : 16 * z + 16 * u ≤ 8 * i). inl (stays i (inl h)))
      (λ (h : 8 * i < 16 * z + 16 * u). ⊎_elim
      (λ (k : 8 * i + 8 ≤ 16 * z). inl (stays i (inr k)))
      (λ (k : 16 * z < 8 * i + 8). inr (carries i (omega arith) (omega arith)))
      (le? (8 * i + 8) (16 * z)))
      (le? (16 * z + 16 * u) (8 * i))

module _ (S Q : Slices) (e : length Q.arena ≡ length S.arena) (q z u : ℕ) (same : SameBytes S.arena Q.arena q u) where
  abbrev S' : Slices
  S' = shifted S q z u

  abbrev Q' : Slices
  Q' = shifted Q q z u

  still : (T : Slices) → length (shifted T q z u).arena ≡ length T.arena
  still T = moved_length T.arena (16 * q) (16 * z) (16 * u)

  lengths : length Q'.arena ≡ length S'.arena
  lengths = still Q ∙ e ∙ sym (still S)

  -- where the word stays in both, the fields are as different as they were
  kept : (f x : ℕ) → (f < 4 → (word f x S'.arena ≡ word f x S.arena) × (word f x Q'.arena ≡ word f x Q.arena))
      → memory_of 8 Q f x ≡ memory_of 8 S f x → memory_of 8 Q' f x ≡ memory_of 8 S' f x
  kept f x h d =
      field_word Q Q' (still Q) (record { lists = refl; live = refl; regions = refl }) f x (λ i. (h i).1) ∙ d
      ∙ sym (field_word S S' (still S) (record { lists = refl; live = refl; regions = refl }) f x (λ i. (h i).0))

  -- the word stays in both, or is the same in both, and then so is the field
  either : (f x : ℕ) → (word f x Q'.arena ≡ word f x S'.arena → memory_of 8 Q' f x ≡ memory_of 8 S' f x) → memory_of 8 Q f x ≡ memory_of 8 S f x
      → memory_of 8 Q' f x ≡ memory_of 8 S' f x
  either f x same_field d = ⊎_elim (λ h. kept f x (λ _. h) d) same_field (word_moved S.arena Q.arena e q z u same (4 * x + f))

  -- a root's next stands in a table, and a grain's is a word
  next : (x : ℕ) → memory_of 8 Q Next x ≡ memory_of 8 S Next x → memory_of 8 Q' Next x ≡ memory_of 8 S' Next x
  unfolding memory_of
  next x d = ⊎_elim
      (λ (h : suc none ≤ x). next_root Q.arena Q'.arena (still Q) Q.lists x h ∙ d ∙ sym (next_root S.arena S'.arena (still S) S.lists x h))
      (λ (h : x < suc none). either Next x (next_word S'.arena Q'.arena lengths S.lists Q.lists x h) d)
      (le? (suc none) x)

  field_moved : (f x : ℕ) → memory_of 8 Q f x ≡ memory_of 8 S f x → memory_of 8 Q' f x ≡ memory_of 8 S' f x
  unfolding memory_of
  field_moved f x = by_field (λ g. memory_of 8 Q g x ≡ memory_of 8 S g x → memory_of 8 Q' g x ≡ memory_of 8 S' g x)
      (either Size x (size_word S'.arena Q'.arena lengths x))
      (either Before x (link_word_lem S'.arena Q'.arena lengths Before wrong_link x))
      (next x)
      (either Prev x (link_word_lem S'.arena Q'.arena lengths Prev wrong_link x))
      (λ d. d) (λ d. d) (λ d. d) (λ g d. d)
      f

  -- so they still differ at most in D
  pub shifted_differs : (D : ℕ → ℕ → Type 0) → DiffersIn D (memory_of 8 S) (memory_of 8 Q) → DiffersIn D (memory_of 8 S') (memory_of 8 Q')
  shifted_differs D d f x n = field_moved f x (d f x n)

-- ---- with the writes before and after it

-- writes that can be stored can be in two parts
valid_parts : (S : Slices) (v w : List Write) → AllValid 8 S (v ++ w) → AllValid 8 S v × AllValid 8 S w
valid_parts S [] w h = (tt, h)
valid_parts S (x ∷ v) w h = let k = valid_parts S v w h.1 in ((h.0, k.0), k.1)

-- what keeps its lengths in S and in Q is as long in both
across : {S Q A B : Slices} → Lengths S Q → Lengths S A → Lengths Q B → Lengths A B
across e a b = record {
  arena = b.arena ∙ e.arena ∙ sym a.arena;
  lists = b.lists ∙ e.lists ∙ sym a.lists;
  live = b.live ∙ e.live ∙ sym a.live;
  regions = b.regions ∙ e.regions ∙ sym a.regions;
}

module _ (D : ℕ → ℕ → Type 0) where
  -- the same writes, stored in both
  pub stores_differs : (S Q : Slices) (l : List Write) → Lengths S Q → length S.arena < 2 ^ 64 → AllValid 8 S l → DiffersIn D (memory_of 8 S) (memory_of 8 Q)
      → DiffersIn D (memory_of 8 (stores 8 S l)) (memory_of 8 (stores 8 Q l))
  stores_differs S Q l e z v d f x n =
      let m = stores_are 8 S l (wide_8 S.arena z) v f x in
      let q = stores_are 8 Q l (wide_8 Q.arena (rw e.arena z)) (all_valid_keep 8 S Q l e v) f x in
      q ∙ same_after (memory_of 8 S) (memory_of 8 Q) l f x (d f x n) ∙ sym m

  -- a plan that moves a payload whose bytes are the same in both
  pub carried_differs : (S Q : Slices) (q : ℕ) (p : Plan) → Lengths S Q → length S.arena < 2 ^ 64 → AllValid 8 S p.writes → SameBytes S.arena Q.arena q p.moved
      → DiffersIn D (memory_of 8 S) (memory_of 8 Q) → DiffersIn D (memory_of 8 (carried S q p)) (memory_of 8 (carried Q q p))
  carried_differs S Q q p e z v same d =
      let k = valid_parts S (first_writes p) (later_writes p) (rw (take-append-drop p.early p.writes) v) in
      let i = across e (stores_lengths 8 S (first_writes p)) (stores_lengths 8 Q (first_writes p)) in
      let first = stores_differs S Q (first_writes p) e z k.0 d in
      let moves = shifted_differs (stores 8 S (first_writes p)) (stores 8 Q (first_writes p)) i.arena q p.answer p.moved
      (λ j h. (stores_same_byte 8 (16 * q + j) (first_writes p) S Q (e.arena, same j h)).1) D first in
      let f = between_lengths S q p in
      let g = between_lengths Q q p in
      stores_differs (between S q p) (between Q q p) (later_writes p) (across e f g) (rw f.arena z) (all_valid_keep 8 S (between S q p) (later_writes p) f k.1) moves
