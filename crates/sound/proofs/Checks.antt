-- What follows from specs/Checks.antt.
use Rattle.std.specs.Prelude.{ℕ, suc, ◌+◌, ◌*◌, ◌/◌, ◌%◌}
use Rattle.choice.specs.Choice.{if_eq, eq_case}
use Rattle.class.specs.Class.{list_of}
use Rattle.script.specs.Memory.{Prev, none}
use Rattle.script.specs.Script.{Script, unless_eq, must_eq, must_le, must_differ, AtMost, few_bind, more}
use Rattle.script.proofs.Script.{few_eq, few_le, few_differ, few_then}
use Rattle.sound.specs.Checks.{Word, is_free, is_used, is_last, is_bad, word_of, must_grain, must_back, as_busy, as_free, as_used, must_list, see_prev, see_entry, see_head, Beside, as_behind, see_behind, as_before, see_before, block_of, see_owner}

-- ---- how many words they read

pub few_back : (n f x y : ℕ) → AtMost 0 (must_back n f x y) 1
few_back n f x y = eq_case (λ (t : Script (Unit {0})). AtMost 0 t 1) x none _ _ (λ _. tt) (λ _. few_then 0 (must_grain n x) _ 1 (few_le 0 5 _ _) (λ _ v. few_eq 0 5 v y))

few_prev : (n h y p : ℕ) → AtMost 0 (see_prev n h y p) 1
few_prev n h y p = eq_case (λ (t : Script (Unit {0})). AtMost 0 t 1) p none _ _
    (λ _. more 0 (must_eq h y) 0 (few_eq 0 5 h y))
    (λ _. few_then 0 (must_grain n h) _ 1 (few_le 0 5 _ _) λ _.
    few_then 0 (must_differ h _) _ 1 (few_differ 0 _ _) λ _.
    few_then 0 (must_grain n p) _ 1 (few_le 0 5 _ _) λ _ v. few_eq 0 5 v y)

pub few_entry : (n k y : ℕ) → AtMost 0 (see_entry n k y) 6
unfolding see_entry
few_entry n k y x =
    few_bind 0 (must_back n Prev x y) _ 1 4 (few_back n Prev x y) λ _ h b.
    few_then 0 (must_eq b 1) _ 2 (few_eq 0 5 _ _) λ _ p.
    few_bind 0 (see_prev n h y p) _ 1 0 (few_prev n h y p) λ _. tt

pub few_head : (n k : ℕ) → AtMost 0 (see_head n k) 3
unfolding see_head
few_head n k h b = few_bind 0 (if_eq h none (must_eq b 0) _) _ 1 0
    (eq_case (λ (t : Script (Unit {0})). AtMost 0 t 1) h none _ _
    (λ _. more 0 (must_eq b 0) 0 (few_eq 0 5 b 0))
    (λ _. few_then 0 (must_grain n h) _ 1 (few_le 0 5 _ _) λ _. few_then 0 (must_eq b 1) _ 1 (few_eq 0 5 _ _) λ _ v. few_eq 0 5 v none))
    (λ _. tt)

pub few_busy : (i : ℕ) (w : Word) → AtMost i (as_busy w) 0
few_busy i (is_free s) = tt
few_busy i (is_used s) = tt
few_busy i is_last = tt
few_busy i is_bad = tt

few_used : (i : ℕ) (w : Word) → AtMost i (as_used w) 0
few_used i (is_free s) = tt
few_used i (is_used s) = tt
few_used i is_last = tt
few_used i is_bad = tt

pub few_free : (i : ℕ) (w : Word) → AtMost i (as_free w) 0
few_free i (is_free s) = tt
few_free i (is_used s) = tt
few_free i is_last = tt
few_free i is_bad = tt

pub few_behind : (n c y : ℕ) → AtMost 0 (see_behind n c y) 9
unfolding see_behind
few_behind n c y v = go (word_of v)
  where
    go : (w : Word) → AtMost 0 (as_behind n c y w) 8
    go (is_free t) =
        few_then 0 (must_list c t) _ 8 (few_le 0 5 _ _) λ _ v.
        few_then 0 (as_busy (word_of v)) _ 7 (few_busy 0 (word_of v)) λ _ u.
        few_then 0 (must_eq u y) _ 6 (few_eq 0 5 _ _) λ _.
        few_bind 0 (see_entry n (list_of t) y) _ 6 0 (few_entry n (list_of t) y) λ _. tt
    go (is_used t) = tt
    go is_last = tt
    go is_bad = tt

pub few_before : (n c x : ℕ) → AtMost 0 (see_before n c x) 8
unfolding see_before
few_before n c x z = eq_case (λ (t : Script Beside). AtMost 0 t 7) z none _ _ (λ _. tt)
    (λ _. few_then 0 (must_le (suc z) x) _ 7 (few_le 0 5 _ _) λ _ v. go (word_of v))
  where
    go : (w : Word) → AtMost 0 (as_before n c x z w) 6
    go (is_free t) =
        few_then 0 (must_eq (z + t) x) _ 6 (few_eq 0 5 _ _) λ _.
        few_then 0 (must_list c t) _ 6 (few_le 0 5 _ _) λ _.
        few_bind 0 (see_entry n (list_of t) z) _ 6 0 (few_entry n (list_of t) z) λ _. tt
    go (is_used t) = few_then 0 (must_eq (z + t) x) _ 6 (few_eq 0 5 _ _) λ _. tt
    go is_last = tt
    go is_bad = tt

pub few_owner : (q : ℕ) → AtMost 0 (see_owner q) 4
unfolding see_owner
few_owner q b =
    few_then 0 (unless_eq 3 b 1) _ 3 (few_eq 0 3 b 1) λ _.
    few_bind 0 (block_of q) _ 1 2
    (eq_case (λ (t : Script ℕ). AtMost 0 t 1) (q % 2) 1 _ _ (λ _. tt) (λ _ x. few_then 0 (must_le (suc x) (q / 2)) _ 0 (few_le 0 5 _ _) λ _. tt)) λ x v.
    few_then 0 (as_used (word_of v)) _ 1 (few_used 0 (word_of v)) λ s.
    few_then 0 (must_le q (2 * (x + s))) _ 1 (few_le 0 5 _ _) λ _ u.
    few_then 0 (must_eq u x) _ 0 (few_eq 0 5 _ _) λ _. tt
