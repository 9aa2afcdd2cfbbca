-- How many words each check reads at the most, on any memory.
use Rattle.std.specs.Prelude.{ℕ, zero, suc, ◌+◌, ◌-◌, ◌*◌, ◌/◌, ◌%◌, ◌≤◌, ◌≡◌}
use Rattle.std.proofs.Common.{suc-add, arith, subst}
use Rattle.choice.specs.Choice.{if_eq, eq_case}
use Rattle.class.specs.Class.{list_of}
use Rattle.definition.specs.Calls.{place, keeps}
use Rattle.script.specs.Memory.{Next, Prev, Mark}
use Rattle.script.specs.Script.{Script, read, first, done, stop, ◌>>=◌, unless_eq, unless_le, must_eq, must_le, AtMost, few_bind, more_by, Ends}
use Rattle.script.proofs.Script.{few_eq, few_le, few_then, few_plain}
use Rattle.machine.specs.Machine.{guard_next}
use Rattle.tags.specs.Tag.{Tag, flags, START, FREE, SMALL, LARGE, free_tag}
use Rattle.plans.specs.Checks.{must_grain, must_list, must_be, must_busy, must_free, see_free, see_entry, see_head, see_guard, Owner, owned, owner_wide, see_owner, listed, see_after, see_before, see_rest, see_join}
use Rattle.plans.specs.Allocate.{see_first, see_taken}

-- ---- two laws of counting

-- more may be allowed than is read
pub few_up : {A : Type 0} (i : ℕ) (s : Script A) (n m : ℕ) → n ≤ m → AtMost i s n → AtMost i s m
few_up i s n m l h = let e : m - n + n ≡ m = omega arith in subst (AtMost i s) e (more_by i s (m - n) n h)

-- what follows a step depends on the step's answer
pub few_ends : {A B : Type 0} (i : ℕ) (Q : A → Type 0) (s : Script A) (f : A → Script B) (n m : ℕ) → AtMost i s n → Ends Q s → ((a : A) → Q a → AtMost 0 (f a) m) → AtMost i (s >>= f) (n + m)
few_ends i Q (read g x k) f zero m h e q = absurd h
few_ends i Q (read g x k) f (suc n) m h e q = rw (suc-add n m) (λ v. few_ends i Q (k v) f n m (h v) (e v) q)
few_ends zero Q (first l x k) f n m h e q = absurd h
few_ends (suc i) Q (first l x k) f n m h e q = λ v. few_ends i Q (k v) f n m (h v) (e v) q
few_ends i Q (done a) f n m h e q = few_plain i (f a) (n + m) (more_by 0 (f a) n m (q a e))
few_ends i Q (stop r) f n m h e q = tt

-- ---- the checks

few_be : (f x y : ℕ) → AtMost 0 (must_be f x y) 1
few_be f x y v = few_eq 0 5 v y

few_busy : (v : ℕ) → AtMost 0 (must_busy v) 0
few_busy v = few_then 0 (must_le START (v % flags)) _ 0 (few_le 0 5 _ _) λ _. few_le 0 5 _ _

few_free : (n x : ℕ) → AtMost 0 (must_free n x) 1
unfolding must_free
few_free n x =
    few_then 0 (must_grain n x) _ 1 (few_le 0 5 _ _) λ _ v.
    few_then 0 (must_eq (v % flags) (START + FREE)) _ 0 (few_eq 0 5 _ _) λ _.
    few_then 0 (must_le 1 (v / flags)) _ 0 (few_le 0 5 _ _) λ _. tt

few_whole : (n x : ℕ) → AtMost 0 (see_free n x) 3
unfolding see_free
few_whole n x =
    few_bind 0 (must_free n x) _ 1 2 (few_free n x) λ s.
    few_then 0 (must_grain n (x + s)) _ 2 (few_le 0 5 _ _) λ _ e.
    few_then 0 (must_eq (e % START) FREE) _ 1 (few_eq 0 5 _ _) λ _.
    few_then 0 (must_eq (e / flags) s) _ 1 (few_eq 0 5 _ _) λ _ v.
    few_then 0 (must_busy v) _ 0 (few_busy v) λ _. tt

few_entry : (n k y : ℕ) → AtMost 0 (see_entry n k y) 8
unfolding see_entry
few_entry n k y x p =
    few_bind 0 (must_free n x) _ 1 5 (few_free n x) λ _.
    few_bind 0 (must_be Prev x (if_eq x y p y)) _ 1 4 (few_be Prev x _) λ _.
    few_bind 0 (must_free n p) _ 1 3 (few_free n p) λ _.
    few_bind 0 (must_be Next p (if_eq p y x y)) _ 1 2 (few_be Next p _) λ _.
    few_bind 0 (must_be Mark k 1) _ 1 1 (few_be Mark k 1) λ _ h. few_eq 0 5 _ _

few_head : (n k : ℕ) → AtMost 0 (see_head n k) 4
unfolding see_head
few_head n k b h = eq_case (λ (s : Script (Unit {0})). AtMost 0 s 2) b 0 _ _ (λ _. tt)
    (λ _. few_bind 0 (must_free n h) _ 1 1 (few_free n h) λ _. few_be Prev h h)

pub few_guard : (x : ℕ) → AtMost 0 (see_guard x) 2
unfolding see_guard
few_guard x = few_bind 0 (must_be Next x (guard_next x)) _ 1 1 (few_be Next x _) λ _. few_be Prev x _

few_owned : (n x s p : ℕ) → AtMost 0 (owned n x s p) 0
few_owned n x s p =
    few_then 0 (must_le 1 s) _ 0 (few_le 0 5 _ _) λ _.
    few_then 0 (must_le p s) _ 0 (few_le 0 5 _ _) λ _.
    few_then 0 (must_grain n (x + s)) _ 0 (few_le 0 5 _ _) λ _. tt

few_wide : (n g v : ℕ) → AtMost 0 (owner_wide n g v) 1
few_wide n g v =
    few_then 0 (unless_eq 3 (v % flags) LARGE) _ 1 (few_eq 0 3 _ _) λ _.
    few_then 0 (must_le 2 (v / flags)) _ 1 (few_le 0 5 _ _) λ _.
    few_then 0 (must_le (v / flags) g) _ 1 (few_le 0 5 _ _) λ _ u.
    few_then 0 (must_eq (u % flags) START) _ 0 (few_eq 0 5 _ _) λ _. few_owned n (g - v / flags) (u / flags) (v / flags)

pub few_owner : (n q : ℕ) → AtMost 0 (see_owner n q) 2
unfolding see_owner
few_owner n q =
    few_then 0 (unless_le 3 (suc q) (2 * n)) _ 2 (few_le 0 3 _ _) λ _.
    eq_case (λ (s : Script Owner). AtMost 0 s 2) (q % 2) 1 _ _
    (λ _ v. few_then 0 (unless_eq 3 (v % flags) (START + SMALL)) _ 1 (few_eq 0 3 _ _) λ _. few_up 0 (owned n (q / 2) (v / flags) 0) 0 1 (omega arith) (few_owned n (q / 2) (v / flags) 0))
    (λ _. few_then 0 (unless_le 3 1 (q / 2)) _ 2 (few_le 0 3 _ _) λ _ v.
    eq_case (λ (s : Script Owner). AtMost 0 s 1) (v % flags) (START + LARGE) _ _
    (λ _. few_up 0 (owned n (q / 2 - 1) (v / flags) 1) 0 1 (omega arith) (few_owned n (q / 2 - 1) (v / flags) 1))
    (λ _. few_wide n (q / 2) v))

few_listed : (n c y s : ℕ) → AtMost 0 (listed n c y s) 8
few_listed n c y s =
    few_then 0 (must_list c s) _ 8 (few_le 0 5 _ _) λ _.
    few_bind 0 (see_entry n (list_of s) y) _ 8 0 (few_entry n (list_of s) y) λ _. tt

pub few_after_it : (n c y : ℕ) → AtMost 0 (see_after n c y) 12
unfolding see_after
few_after_it n c y =
    few_then 0 (must_grain n y) _ 12 (few_le 0 5 _ _) λ _ v.
    eq_case (λ (s : Script ℕ). AtMost 0 s 11) (v % flags) (START + FREE) _ _
    (λ _. few_bind 0 (see_free n y) _ 3 8 (few_whole n y) λ s. few_listed n c y s)
    (λ _. few_then 0 (must_busy v) _ 11 (few_busy v) λ _. tt)

pub few_before_it : (n c x : ℕ) → AtMost 0 (see_before n c x) 10
unfolding see_before
few_before_it n c x = eq_case (λ (s : Script ℕ). AtMost 0 s 10) x 0 _ _ (λ _. tt) λ _ v.
    eq_case (λ (s : Script ℕ). AtMost 0 s 9) (v % START) FREE _ _
    (λ _. few_then 0 (must_le 1 (v / flags)) _ 9 (few_le 0 5 _ _) λ _.
    few_then 0 (must_le (v / flags) x) _ 9 (few_le 0 5 _ _) λ _.
    few_bind 0 (must_be Tag (x - v / flags) (free_tag (v / flags))) _ 1 8 (few_be Tag (x - v / flags) (free_tag (v / flags))) λ _. few_listed n c (x - v / flags) (v / flags))
    (λ _. tt)

pub few_rest : (n c t k : ℕ) → AtMost 0 (see_rest n c t k) 4
unfolding see_rest
few_rest n c t k =
    few_then 0 (must_list c t) _ 4 (few_le 0 5 _ _) λ _.
    eq_case (λ (s : Script (Unit {0})). AtMost 0 s 4) k t _ _ (λ _. tt) (λ _. few_head n (list_of (t - k)))

pub few_join : (n c t : ℕ) → AtMost 0 (see_join n c t) 4
unfolding see_join
few_join n c t = few_then 0 (must_list c t) _ 4 (few_le 0 5 _ _) λ _. few_head n (list_of t)

few_first : (n k y : ℕ) → AtMost 0 (see_first n k y) 7
unfolding see_first
few_first n k y =
    few_bind 0 (see_free n y) _ 3 4 (few_whole n y) λ s.
    few_then 0 (must_eq (list_of s) k) _ 4 (few_eq 0 5 _ _) λ _.
    few_bind 0 (must_be Prev y y) _ 1 3 (few_be Prev y y) λ _ x.
    few_bind 0 (must_free n x) _ 1 1 (few_free n x) λ _.
    few_bind 0 (must_be Prev x y) _ 1 0 (few_be Prev x y) λ _. tt

pub few_taken : (n c p a : ℕ) → AtMost 1 (see_taken n c p a) 12
unfolding see_taken
few_taken n c p a k =
    few_then 0 (unless_le 1 (suc k) (16 * c)) _ 12 (few_le 0 1 _ _) λ _ y.
    few_bind 0 (see_first n k y) _ 7 4 (few_first n k y) λ s.
    few_bind 0 (see_rest n c s (keeps (place a y) p)) _ 4 0 (few_rest n c s (keeps (place a y) p)) λ _. tt
