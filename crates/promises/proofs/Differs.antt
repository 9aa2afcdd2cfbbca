-- Slices that differ at most in the words of D, as they are decoded, still do when the same writes are stored in both, and when a
-- payload is moved in both, if its bytes are the same in both.
use Rattle.std.specs.Prelude.{ℕ, suc, ◌+◌, ◌-◌, ◌*◌, ◌≤◌, ◌<◌, ◌≡◌, List, [], ◌∷◌, ◌++◌, length}
use native.Mathlib.Omega.{arith}
use Rattle.std.proofs.Common.{sym, ◌∙◌, inl, inr, ⊎_elim}
use Rattle.std.proofs.Math.Path.{subst}
use Rattle.std.proofs.Math.ListN.{get_or, get_or-eq_default}
use Rattle.choice.specs.Choice.{le?}
use Rattle.word.specs.Number.{Apart, num_same}
use Rattle.word.specs.Word.{word_at}
use Rattle.copy.specs.Moved.{moved, moved_arrived, moved_length}
use Rattle.copy.specs.Words.{word_kept}
use Rattle.script.specs.Memory.{Write}
use Rattle.script.specs.Locality.{DiffersIn}
use Rattle.script.proofs.Locality.{same_after}
use Rattle.machine.specs.Machine.{word_bytes, half}
use Rattle.plans.specs.Deeds.{Plan, writes}
use Rattle.lent.specs.Slices.{Slices, memory_of, stores, AllValid}
use Rattle.lent.proofs.Fields.{by_field}
use Rattle.lent.specs.Kept.{Lengths}
use Rattle.lent.proofs.Kept.{stores_lengths, all_valid_keep}
use Rattle.lent.proofs.Stored.{stores_are}
use Rattle.lent.specs.Shifted.{shifted, carried_out}
use Rattle.promises.specs.Terms.{SameAt}
use Rattle.promises.proofs.Alike.{stores_same_byte}
use Rattle.promises.proofs.Carrying.{between, between_lengths}

-- ---- words of two arenas

module _ (a b : List ℕ) (e : length b ≡ length a) (q z u : ℕ) (same : (i : ℕ) → i < half * u → get_or b (half * q + i) 0 ≡ get_or a (half * q + i) 0) where
  -- the arenas after the move
  abbrev to : List ℕ → List ℕ
  to c = moved c (half * q) (half * z) (half * u)

  -- what was moved is the same in both
  arrived : (i : ℕ) → i < half * u → get_or (to b) (half * z + i) 0 ≡ get_or (to a) (half * z + i) 0
  arrived i h = ⊎_elim
      (λ (k : suc (half * z + i) ≤ length a). moved_arrived b (half * q) (half * z) (half * u) i h (omega arith) ∙ same i h ∙ sym (moved_arrived a (half * q) (half * z) (half * u) i h (omega arith)))
      (λ (k : length a < suc (half * z + i)). get_or-eq_default (to b) 0 (omega (arith, moved_length b (half * q) (half * z) (half * u)))
      ∙ sym (get_or-eq_default (to a) 0 (omega (arith, moved_length a (half * q) (half * z) (half * u)))))
      (le? (suc (half * z + i)) (length a))

  -- so is a word of it
  carries : (i : ℕ) → half * z ≤ word_bytes * i → word_bytes * i + word_bytes ≤ half * z + half * u → word_at word_bytes (to b) i ≡ word_at word_bytes (to a) i
  unfolding word_at
  carries i h k = num_same word_bytes (to b) (word_bytes * i) (to a) (word_bytes * i) (λ j l.
      let e : half * z + (word_bytes * i + j - half * z) ≡ word_bytes * i + j = omega arith in
      subst (λ (x : ℕ). get_or (to b) x 0 ≡ get_or (to a) x 0) e (arrived (word_bytes * i + j - half * z) (omega arith)))

  stays : (i : ℕ) → Apart (half * z) (half * u) (word_bytes * i) word_bytes → word_at word_bytes b i ≡ word_at word_bytes a i → word_at word_bytes (to b) i ≡ word_at word_bytes (to a) i
  stays i h d = word_kept b (half * q) (half * z) (half * u) word_bytes i h ∙ d ∙ sym (word_kept a (half * q) (half * z) (half * u) word_bytes i h)

  -- a word that was the same in both is so after the move
  word_moved : (i : ℕ) → word_at word_bytes b i ≡ word_at word_bytes a i → word_at word_bytes (to b) i ≡ word_at word_bytes (to a) i
  word_moved i d = ⊎_elim
      (λ (h : half * z + half * u ≤ word_bytes * i). stays i (inl h) d)
      (λ (h : word_bytes * i < half * z + half * u). ⊎_elim
      (λ (k : word_bytes * i + word_bytes ≤ half * z). stays i (inr k) d)
      (λ (k : half * z < word_bytes * i + word_bytes). carries i (omega arith) (omega arith))
      (le? (word_bytes * i + word_bytes) (half * z)))
      (le? (half * z + half * u) (word_bytes * i))

module _ (S Q : Slices) (e : length Q.arena ≡ length S.arena) (q z u : ℕ) (same : (i : ℕ) → i < half * u → SameAt S Q (half * q + i)) where
  field_moved : (f x : ℕ) → memory_of Q f x ≡ memory_of S f x → memory_of (shifted Q q z u) f x ≡ memory_of (shifted S q z u) f x
  unfolding memory_of
  field_moved f x = by_field (λ g. memory_of Q g x ≡ memory_of S g x → memory_of (shifted Q q z u) g x ≡ memory_of (shifted S q z u) g x)
      (λ d. d) (λ d. d)
      (word_moved S.arena Q.arena e q z u same (4 * x))
      (word_moved S.arena Q.arena e q z u same (4 * x + 1))
      (λ d. d) (λ d. d) (λ d. d) (λ g d. d)
      f

  shifted_differs : (D : ℕ → ℕ → Type 0) → DiffersIn D (memory_of S) (memory_of Q) → DiffersIn D (memory_of (shifted S q z u)) (memory_of (shifted Q q z u))
  shifted_differs D d f x n = field_moved f x (d f x n)

-- ---- with the writes before and after it

-- writes that can be stored can be in two parts
pub valid_parts : (S : Slices) (v w : List Write) → AllValid S (v ++ w) → AllValid S v × AllValid S w
valid_parts S [] w h = (tt, h)
valid_parts S (x ∷ v) w h = let k = valid_parts S v w h.1 in ((h.0, k.0), k.1)

-- what keeps its lengths in S and in Q is as long in both
across : {S Q A B : Slices} → Lengths S Q → Lengths S A → Lengths Q B → Lengths A B
across e a b = record {
  arena = b.arena ∙ e.arena ∙ sym a.arena;
  lists = b.lists ∙ e.lists ∙ sym a.lists;
  tags = b.tags ∙ e.tags ∙ sym a.tags;
  regions = b.regions ∙ e.regions ∙ sym a.regions;
}

module _ (D : ℕ → ℕ → Type 0) where
  -- the same writes, stored in both
  pub stores_differs : (S Q : Slices) (l : List Write) → Lengths S Q → AllValid S l → DiffersIn D (memory_of S) (memory_of Q)
      → DiffersIn D (memory_of (stores S l)) (memory_of (stores Q l))
  stores_differs S Q l e v d f x n =
      stores_are Q l (all_valid_keep S Q l e v) f x ∙ same_after (memory_of S) (memory_of Q) l f x (d f x n) ∙ sym (stores_are S l v f x)

  -- a plan that moves a payload whose bytes are the same in both
  pub carried_differs : (S Q : Slices) (q : ℕ) (t : Plan) → Lengths S Q → AllValid S (writes t) → ((i : ℕ) → i < half * t.moved → SameAt S Q (half * q + i))
      → DiffersIn D (memory_of S) (memory_of Q) → DiffersIn D (memory_of (carried_out S q t)) (memory_of (carried_out Q q t))
  carried_differs S Q q t e v same d =
      let k = valid_parts S t.early t.late v in
      let i = across e (stores_lengths S t.early) (stores_lengths Q t.early) in
      let first = stores_differs S Q t.early e k.0 d in
      let moves = shifted_differs (stores S t.early) (stores Q t.early) i.arena q t.answer t.moved
      (λ j h. (stores_same_byte (half * q + j) t.early S Q (e.arena, same j h)).1) D first in
      let f = between_lengths S q t in
      let g = between_lengths Q q t in
      stores_differs (between S q t) (between Q q t) t.late (across e f g) (all_valid_keep S (between S q t) t.late f k.1) moves
