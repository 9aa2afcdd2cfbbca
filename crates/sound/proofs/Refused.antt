-- What follows from specs/Refused.antt.
use Rattle.std.specs.Prelude.{ℕ, suc, ◌+◌, ◌*◌, ◌/◌, ◌%◌, ◌≡◌, refl, List}
use Rattle.std.proofs.Common.{arith, ap, ◌∙◌, subst}
use Rattle.choice.specs.Choice.{if_eq, eq_case, le_case}
use Rattle.bits.specs.First.{first_set}
use Rattle.class.specs.Class.{list_of}
use Rattle.script.specs.Memory.{Memory, Prev, Mark, Write, latest}
use Rattle.script.specs.Script.{Script, read, first, done, stop, Result, ok, no, run, ◌>>=◌, unless_eq, unless_le, must_eq, must_le, must_differ, over, Gives}
use Rattle.sound.specs.Checks.{Word, is_free, is_used, is_last, is_bad, word_of, as_busy, as_free, as_used, must_grain, must_back, must_list, see_prev, Entry, see_entry, see_head, Beside, as_behind, see_behind, as_before, see_before, block_of, see_owner}
use Rattle.sound.specs.Checked.{EntryChecked, HeadChecked, BehindChecked, BeforeChecked}
use Rattle.sound.proofs.Checked.{entry_checked, head_checked, behind_checked, before_checked}
use Rattle.sound.specs.Refused.{Stops}

-- ---- every number that a script may refuse with

-- and so the one that it refuses with
pub stops_with : {A : Type 0} (P : ℕ → Type 0) (m : Memory) (s : Script A) {r : ℕ} → Stops P s → run m s ≡ no r → P r
unfolding run
stops_with P m (read f x k) h g = stops_with P m (k (m f x)) (h (m f x)) g
stops_with P m (first n x k) h g = stops_with P m (k (first_set (m Mark) n x)) (h (first_set (m Mark) n x)) g
stops_with P m (done a) h g = let z : ◌≡◌ {A = ℕ} 0 1 = cc in absurd (omega arith)
stops_with P m (stop q) {r} h g = let e : q ≡ r = cc in subst P e h

-- where what an answer tells can't be, there is none
pub contrary : {A : Type 0} (P : ℕ → Type 0) (Q : A → Type 0) (m : Memory) (s : Script A) → Stops P s → ((a : A) → Gives m s a → Q a)
    → ((a : A) → Q a → ⊥) → (r : ℕ) × (run m s ≡ no r) × P r
contrary {A} P Q m s h q n = go (run m s) refl
  where
    go : (w : Result A) → run m s ≡ w → (r : ℕ) × (run m s ≡ no r) × P r
    go (ok a) e = absurd (n a (q a e))
    go (no r) e = (r, e, stops_with P m s h e)

-- where it refuses with one number alone, what refuses behind it with that number, whatever it answers, may as well come
-- before it
pub stops_then : {A B : Type 0} (m : Memory) (r : ℕ) (s : Script A) (f : A → Script B) → Stops (λ (q : ℕ). q ≡ r) s → ((a : A) → run m (f a) ≡ no r) → run m (s >>= f) ≡ no r
unfolding run
stops_then m r (read g x k) f h e = stops_then m r (k (m g x)) f (h (m g x)) e
stops_then m r (first n x k) f h e = stops_then m r (k (first_set (m Mark) n x)) f (h (first_set (m Mark) n x)) e
stops_then m r (done a) f h e = e a
stops_then m r (stop q) f h e = ap no h

module _ (P : ℕ → Type 0) where
  -- one step after another, and the smallest checks
  pub stops_bind : {A B : Type 0} (s : Script A) (f : A → Script B) → Stops P s → ((a : A) → Stops P (f a)) → Stops P (s >>= f)
  stops_bind (read g x k) f h q = λ v. stops_bind (k v) f (h v) q
  stops_bind (first n x k) f h q = λ v. stops_bind (k v) f (h v) q
  stops_bind (done a) f h q = q a
  stops_bind (stop r) f h q = h

  pub stops_eq : (r a b : ℕ) → P r → Stops P (unless_eq r a b)
  stops_eq r a b h = eq_case (Stops P) a b _ _ (λ _. tt) (λ _. h)

  pub stops_le : (r a b : ℕ) → P r → Stops P (unless_le r a b)
  stops_le r a b h = le_case (Stops P) a b _ _ (λ _. tt) (λ _. h)

  -- ---- the checks: 5

  module _ (five : P 5) where
    -- a script on the memory after some writes
    pub stops_over : {A : Type 0} (l : List Write) (s : Script A) → Stops P s → Stops P (over l s)
    unfolding over
    stops_over l (read f x k) h = λ v. stops_over l (k (latest l f x v)) (h (latest l f x v))
    stops_over l (first n x k) h = five
    stops_over l (done a) h = tt
    stops_over l (stop r) h = h

    -- numbers, words and links
    stops_differ : (a b : ℕ) → Stops P (must_differ a b)
    stops_differ a b = eq_case (Stops P) a b _ _ (λ _. five) (λ _. tt)

    pub stops_busy : (w : Word) → Stops P (as_busy w)
    stops_busy (is_free s) = five
    stops_busy (is_used s) = tt
    stops_busy is_last = tt
    stops_busy is_bad = five

    pub stops_free : (w : Word) → Stops P (as_free w)
    stops_free (is_free s) = tt
    stops_free (is_used s) = five
    stops_free is_last = five
    stops_free is_bad = five

    stops_used : (w : Word) → Stops P (as_used w)
    stops_used (is_free s) = five
    stops_used (is_used s) = tt
    stops_used is_last = five
    stops_used is_bad = five

    pub stops_back : (n f x y : ℕ) → Stops P (must_back n f x y)
    stops_back n f x y = eq_case (Stops P) x _ _ _ (λ _. tt) (λ _. stops_bind (must_grain n x) _ (stops_le 5 _ _ five) λ _ v. stops_eq 5 v y five)

    stops_prev : (n h y p : ℕ) → Stops P (see_prev n h y p)
    stops_prev n h y p = eq_case (Stops P) p _ _ _ (λ _. stops_eq 5 h y five)
        (λ _. stops_bind (must_grain n h) _ (stops_le 5 _ _ five) λ _.
        stops_bind (must_differ h y) _ (stops_differ h y) λ _.
        stops_bind (must_grain n p) _ (stops_le 5 _ _ five) λ _ v. stops_eq 5 v y five)

    -- entries and heads
    pub stops_entry : (n k y : ℕ) → Stops P (see_entry n k y)
    unfolding see_entry
    stops_entry n k y x =
        stops_bind (must_back n Prev x y) _ (stops_back n Prev x y) λ _ h b.
        stops_bind (must_eq b 1) _ (stops_eq 5 b 1 five) λ _ p.
        stops_bind (see_prev n h y p) _ (stops_prev n h y p) λ _. tt

    pub stops_head : (n k : ℕ) → Stops P (see_head n k)
    unfolding see_head
    stops_head n k h b = stops_bind (if_eq h _ (must_eq b 0) _) _
        (eq_case (Stops P) h _ _ _ (λ _. stops_eq 5 b 0 five)
        (λ _. stops_bind (must_grain n h) _ (stops_le 5 _ _ five) λ _. stops_bind (must_eq b 1) _ (stops_eq 5 b 1 five) λ _ v. stops_eq 5 v _ five))
        (λ _. tt)

    -- neighbours
    pub stops_behind : (n c y : ℕ) → Stops P (see_behind n c y)
    unfolding see_behind
    stops_behind n c y v = go (word_of v)
      where
        go : (w : Word) → Stops P (as_behind n c y w)
        go (is_free t) =
            stops_bind (must_list c t) _ (stops_le 5 _ _ five) λ _ v.
            stops_bind (as_busy (word_of v)) _ (stops_busy (word_of v)) λ _ u.
            stops_bind (must_eq u y) _ (stops_eq 5 u y five) λ _.
            stops_bind (see_entry n (list_of t) y) _ (stops_entry n (list_of t) y) λ _. tt
        go (is_used t) = tt
        go is_last = tt
        go is_bad = five

    pub stops_before : (n c x : ℕ) → Stops P (see_before n c x)
    unfolding see_before
    stops_before n c x z = eq_case (Stops P) z _ _ _ (λ _. tt) (λ _. stops_bind (must_le (suc z) x) _ (stops_le 5 _ _ five) λ _ v. go (word_of v))
      where
        go : (w : Word) → Stops P (as_before n c x z w)
        go (is_free t) =
            stops_bind (must_eq (z + t) x) _ (stops_eq 5 (z + t) x five) λ _.
            stops_bind (must_list c t) _ (stops_le 5 _ _ five) λ _.
            stops_bind (see_entry n (list_of t) z) _ (stops_entry n (list_of t) z) λ _. tt
        go (is_used t) = stops_bind (must_eq (z + t) x) _ (stops_eq 5 (z + t) x five) λ _. tt
        go is_last = five
        go is_bad = five

    -- the block of a payload: also not live
    pub stops_owner : P 3 → (q : ℕ) → Stops P (see_owner q)
    unfolding see_owner
    stops_owner three q b =
        stops_bind (unless_eq 3 b 1) _ (stops_eq 3 b 1 three) λ _.
        stops_bind (block_of q) _ (eq_case (Stops P) (q % 2) 1 _ _ (λ _. tt) (λ _ x. stops_bind (must_le (suc x) (q / 2)) _ (stops_le 5 _ _ five) λ _. tt)) λ x v.
        stops_bind (as_used (word_of v)) _ (stops_used (word_of v)) λ s.
        stops_bind (must_le q (2 * (x + s))) _ (stops_le 5 _ _ five) λ _ u.
        stops_bind (must_eq u x) _ (stops_eq 5 _ _ five) λ _. tt

-- ---- where the records contradict each other

-- a check whose only refusal is 5
with_five : {A : Type 0} (Q : A → Type 0) (m : Memory) (s : Script A) → Stops (λ r. r ≡ 5) s → ((a : A) → Gives m s a → Q a) → ((a : A) → Q a → ⊥) → run m s ≡ no 5
with_five Q m s h q n = let c = contrary (λ r. r ≡ 5) Q m s h q n in c.1 ∙ ap no c.2

module _ (n : ℕ) (m : Memory) where
  -- the entry of a free block
  pub entry_refused : (k y : ℕ) → ((e : Entry) → EntryChecked n m k y e → ⊥) → run m (see_entry n k y) ≡ no 5
  entry_refused k y = with_five (EntryChecked n m k y) m (see_entry n k y) (stops_entry (λ r. r ≡ 5) refl n k y) (entry_checked n m k y)

  -- a list's head
  pub head_refused : (k : ℕ) → ((h : ℕ) → HeadChecked n m k h → ⊥) → run m (see_head n k) ≡ no 5
  head_refused k = with_five (HeadChecked n m k) m (see_head n k) (stops_head (λ r. r ≡ 5) refl n k) (head_checked n m k)

  -- what stands behind a block, and before it
  pub behind_refused : (c y : ℕ) → ((b : Beside) → BehindChecked n c m y b → ⊥) → run m (see_behind n c y) ≡ no 5
  behind_refused c y = with_five (BehindChecked n c m y) m (see_behind n c y) (stops_behind (λ r. r ≡ 5) refl n c y) (behind_checked n c m y)

  pub before_refused : (c x : ℕ) → ((b : Beside) → BeforeChecked n c m x b → ⊥) → run m (see_before n c x) ≡ no 5
  before_refused c x = with_five (BeforeChecked n c m x) m (see_before n c x) (stops_before (λ r. r ≡ 5) refl n c x) (before_checked n c m x)
