-- What follows from specs/Script.antt.
use Rattle.std.specs.Prelude.{ℕ, zero, suc, ◌+◌, ◌≤◌, ◌<◌, ◌≡◌, refl, List}
use Rattle.std.proofs.Common.{arith, zero-add, suc-add, ap, sym, ◌∙◌, subst, ⊎_elim}
use Rattle.choice.specs.Choice.{eq_yes, eq_no, eq_case, le_yes, le_no, le_case, le?, same?}
use Rattle.bits.specs.First.{first_set}
use Rattle.script.specs.Memory.{Memory, Mark, Write, apply, latest}
use Rattle.script.proofs.Memory.{apply_is}
use Rattle.script.specs.Script.{Script, read, first, done, stop, Result, ok, no, run, AtMost, ◌>>=◌, get, unless_eq, unless_le, must_differ, Gives, more_by, few_bind, over, Ends}

-- ---- on the memory m the script ends with the answer a

-- past a step that gives a
pub goes : {A B : Type 0} (m : Memory) (s : Script A) (f : A → Script B) {a : A} → Gives m s a → run m (s >>= f) ≡ run m (f a)
unfolding run
goes m (read g x k) f h = goes m (k (m g x)) f h
goes m (first n x k) f h = goes m (k (first_set (m Mark) n x)) f h
goes m (done x) f {a} h = let e : x ≡ a = cc in ap (λ (u : _). run m (f u)) e
goes m (stop r) f h = cc

-- out at a step that refuses
pub halts : {A B : Type 0} (m : Memory) (s : Script A) (f : A → Script B) {r : ℕ} → run m s ≡ no r → run m (s >>= f) ≡ no r
unfolding run
halts m (read g x k) f h = halts m (k (m g x)) f h
halts m (first n x k) f h = halts m (k (first_set (m Mark) n x)) f h
halts m (done x) f h = cc
halts m (stop r) f h = cc

-- what answers alike does so behind any step
pub alike : {A B : Type 0} (m : Memory) (s : Script A) (f h : A → Script B) → ((a : A) → run m (f a) ≡ run m (h a)) → run m (s >>= f) ≡ run m (s >>= h)
unfolding run
alike m (read g x k) f h e = alike m (k (m g x)) f h e
alike m (first n x k) f h e = alike m (k (first_set (m Mark) n x)) f h e
alike m (done a) f h e = e a
alike m (stop r) f h e = refl

-- steps in other brackets
pub bind_assoc : {A B C : Type 0} (m : Memory) (s : Script A) (f : A → Script B) (g : B → Script C) → run m ((s >>= f) >>= g) ≡ run m (s >>= λ x. f x >>= g)
unfolding run
bind_assoc m (read d y k) f g = bind_assoc m (k (m d y)) f g
bind_assoc m (first n x k) f g = bind_assoc m (k (first_set (m Mark) n x)) f g
bind_assoc m (done x) f g = refl
bind_assoc m (stop r) f g = refl

pub gives_bind : {A B : Type 0} (m : Memory) (s : Script A) (f : A → Script B) {a : A} {b : B} → Gives m s a → Gives m (f a) b → Gives m (s >>= f) b
gives_bind m s f h g = goes m s f h ∙ g

pub reads : {B : Type 0} (m : Memory) (f x : ℕ) (k : ℕ → Script B) {v : ℕ} → m f x ≡ v → run m (read f x k) ≡ run m (k v)
unfolding run
reads m f x k e = rw e

pub searches : {B : Type 0} (m : Memory) (n x : ℕ) (k : ℕ → Script B) {v : ℕ} → first_set (m Mark) n x ≡ v → run m (first n x k) ≡ run m (k v)
unfolding run
searches m n x k e = rw e

pub gives_get : {B : Type 0} (m : Memory) (f x : ℕ) (k : ℕ → Script B) {v : ℕ} {b : B} → m f x ≡ v → Gives m (k v) b → Gives m (get f x >>= k) b
gives_get m f x k h g = reads m f x k h ∙ g

pub gives_done : {A : Type 0} (m : Memory) (a : A) → Gives m (done a) a
unfolding run
gives_done m a = refl

pub runs_stop : {A : Type 0} (m : Memory) (r : ℕ) → ◌≡◌ {A = Result A} (run m (stop r)) (no r)
unfolding run
runs_stop m r = refl

module _ (m : Memory) (r a b : ℕ) where
  pub gives_eq : a ≡ b → Gives m (unless_eq r a b) (tt {0})
  gives_eq h = ap (run m) (eq_yes a b (done (tt {0})) (stop r) h) ∙ gives_done m (tt {0})

  pub gives_le : a ≤ b → Gives m (unless_le r a b) (tt {0})
  gives_le h = ap (run m) (le_yes a b (done (tt {0})) (stop r) h) ∙ gives_done m (tt {0})

  pub halts_eq : (a ≡ b → ⊥) → run m (unless_eq r a b) ≡ no r
  halts_eq h = ap (run m) (eq_no a b (done (tt {0})) (stop r) h) ∙ runs_stop m r

  pub halts_le : b < a → run m (unless_le r a b) ≡ no r
  halts_le h = ap (run m) (le_no a b (done (tt {0})) (stop r) (omega arith)) ∙ runs_stop m r

pub gives_differ : (m : Memory) (a b : ℕ) → (a ≡ b → ⊥) → Gives m (must_differ a b) (tt {0})
gives_differ m a b h = ap (run m) (eq_no a b (stop 5) (done (tt {0})) h) ∙ gives_done m (tt {0})

pub halts_differ : (m : Memory) (a b : ℕ) → a ≡ b → run m (must_differ a b) ≡ no 5
halts_differ m a b h = ap (run m) (eq_yes a b (stop 5) (done (tt {0})) h) ∙ runs_stop m 5

-- ---- what an answer tells of the memory

pub inv_bind : {A B : Type 0} (m : Memory) (s : Script A) (f : A → Script B) {b : B} → Gives m (s >>= f) b → (a : A) × Gives m s a × Gives m (f a) b
unfolding run
inv_bind m (read g x k) f h = inv_bind m (k (m g x)) f h
inv_bind m (first n x k) f h = inv_bind m (k (first_set (m Mark) n x)) f h
inv_bind m (done a) f h = (a, refl, h)
inv_bind m (stop r) f h = let z : ◌≡◌ {A = ℕ} 0 1 = cc in absurd (omega arith)

pub inv_get : {B : Type 0} (m : Memory) (f x : ℕ) (k : ℕ → Script B) {b : B} → Gives m (read f x k) b → Gives m (k (m f x)) b
unfolding run
inv_get m f x k h = h

pub inv_done : {A : Type 0} (m : Memory) (a b : A) → Gives m (done a) b → a ≡ b
unfolding run
inv_done m a b h = cc

pub inv_eq : (m : Memory) (r a b : ℕ) {t : Unit {0}} → Gives m (unless_eq r a b) t → a ≡ b
inv_eq m r a b {t} h = ⊎_elim (λ (e : a ≡ b). e)
    (λ (n : a ≡ b → ⊥). let g : no r ≡ ok t = sym (halts_eq m r a b n) ∙ h in let z : ◌≡◌ {A = ℕ} 0 1 = cc in absurd (omega arith)) (same? a b)

pub inv_le : (m : Memory) (r a b : ℕ) {t : Unit {0}} → Gives m (unless_le r a b) t → a ≤ b
inv_le m r a b {t} h = ⊎_elim (λ (e : a ≤ b). e)
    (λ (n : b < a). let g : no r ≡ ok t = sym (halts_le m r a b n) ∙ h in let z : ◌≡◌ {A = ℕ} 0 1 = cc in absurd (omega arith)) (le? a b)

pub inv_differ : (m : Memory) (a b : ℕ) {t : Unit {0}} → Gives m (must_differ a b) t → a ≡ b → ⊥
inv_differ m a b {t} h e = let g : no 5 ≡ ok t = sym (halts_differ m a b e) ∙ h in let z : ◌≡◌ {A = ℕ} 0 1 = cc in omega arith

-- ---- counting: checks read nothing

pub few_eq : (i r a b : ℕ) → AtMost i (unless_eq r a b) 0
few_eq i r a b = eq_case (λ t. AtMost i t 0) a b (done (tt {0})) (stop r) (λ _. tt) (λ _. tt)

pub few_le : (i r a b : ℕ) → AtMost i (unless_le r a b) 0
few_le i r a b = le_case (λ t. AtMost i t 0) a b (done (tt {0})) (stop r) (λ _. tt) (λ _. tt)

pub few_differ : (i a b : ℕ) → AtMost i (must_differ a b) 0
few_differ i a b = eq_case (λ t. AtMost i t 0) a b (stop 5) (done (tt {0})) (λ _. tt) (λ _. tt)

pub few_then : {A B : Type 0} (i : ℕ) (s : Script A) (f : A → Script B) (m : ℕ) → AtMost 0 s 0 → ((a : A) → AtMost i (f a) m) → AtMost i (s >>= f) m
few_then i s f m h q = rw (zero-add m) at (few_bind i s f 0 m h q)

-- a script that searches no map may be allowed to
pub few_plain : {A : Type 0} (i : ℕ) (s : Script A) (n : ℕ) → AtMost 0 s n → AtMost i s n
few_plain i (read f x k) zero h = absurd h
few_plain i (read f x k) (suc n) h = λ v. few_plain i (k v) n (h v)
few_plain i (first m x k) n h = absurd h
few_plain i (done a) n h = tt
few_plain i (stop r) n h = tt

-- the steps after the first search no map
pub few_after : {A B : Type 0} (i : ℕ) (s : Script A) (f : A → Script B) (n m : ℕ) → AtMost i s n → ((a : A) → AtMost 0 (f a) m) → AtMost i (s >>= f) (n + m)
few_after i (read g x k) f zero m h q = absurd h
few_after i (read g x k) f (suc n) m h q = rw (suc-add n m) (λ v. few_after i (k v) f n m (h v) q)
few_after zero (first l x k) f n m h q = absurd h
few_after (suc i) (first l x k) f n m h q = λ v. few_after i (k v) f n m (h v) q
few_after i (done a) f n m h q = few_plain i (f a) (n + m) (more_by 0 (f a) n m (q a))
few_after i (stop r) f n m h q = tt

-- ---- a script on the memory as it will be after some writes, run on the memory as it is

pub over_few : {A : Type 0} (i : ℕ) (l : List Write) (s : Script A) (n : ℕ) → AtMost 0 s n → AtMost i (over l s) n
unfolding over
over_few i l (read f x k) zero h = absurd h
over_few i l (read f x k) (suc n) h = λ v. over_few i l (k (latest l f x v)) n (h (latest l f x v))
over_few i l (first m x k) n h = absurd h
over_few i l (done a) n h = tt
over_few i l (stop r) n h = tt

-- a script that doesn't search the map
pub over_run : {A : Type 0} (m : Memory) (l : List Write) (s : Script A) (n : ℕ) → AtMost 0 s n → run m (over l s) ≡ run (apply m l) s
unfolding run over
over_run m l (read f x k) zero h = absurd h
over_run m l (read f x k) (suc n) h =
    over_run m l (k (latest l f x (m f x))) n (h (latest l f x (m f x)))
    ∙ ap (λ (v : ℕ). run (apply m l) (k v)) (sym (apply_is m l f x))
over_run m l (first i x k) n h = absurd h
over_run m l (done a) n h = refl
over_run m l (stop r) n h = refl

-- ---- what holds of every answer that a script may give, on any memory

pub ends_bind : {A B : Type 0} (Q : A → Type 0) (P : B → Type 0) (s : Script A) (f : A → Script B) → Ends Q s → ((a : A) → Q a → Ends P (f a)) → Ends P (s >>= f)
ends_bind Q P (read g x k) f h q = λ v. ends_bind Q P (k v) f (h v) q
ends_bind Q P (first n x k) f h q = λ v. ends_bind Q P (k v) f (h v) q
ends_bind Q P (done a) f h q = q a h
ends_bind Q P (stop r) f h q = tt

-- whatever the first step answers
pub ends_any : {A B : Type 0} (P : B → Type 0) (s : Script A) (f : A → Script B) → ((a : A) → Ends P (f a)) → Ends P (s >>= f)
ends_any P (read g x k) f q = λ v. ends_any P (k v) f q
ends_any P (first n x k) f q = λ v. ends_any P (k v) f q
ends_any P (done a) f q = q a
ends_any P (stop r) f q = tt

pub ends_over : {A : Type 0} (P : A → Type 0) (l : List Write) (s : Script A) → Ends P s → Ends P (over l s)
unfolding over
ends_over P l (read f x k) h = λ v. ends_over P l (k (latest l f x v)) (h (latest l f x v))
ends_over P l (first n x k) h = tt
ends_over P l (done a) h = h
ends_over P l (stop r) h = tt

-- and so of the answer that it gives
pub ends_gives : {A : Type 0} (P : A → Type 0) (m : Memory) (s : Script A) {a : A} → Ends P s → Gives m s a → P a
unfolding run
ends_gives P m (read f x k) h g = ends_gives P m (k (m f x)) (h (m f x)) g
ends_gives P m (first n x k) h g = ends_gives P m (k (first_set (m Mark) n x)) (h (first_set (m Mark) n x)) g
ends_gives P m (done b) {a} h g = let e : b ≡ a = cc in subst P e h
ends_gives P m (stop r) h g = let z : ◌≡◌ {A = ℕ} 0 1 = cc in absurd (omega arith)
