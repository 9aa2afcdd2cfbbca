-- What a call reads, in order, each read depending on the words before, and what it answers: a tree with a known depth.
-- The answer of a plan holds the writes. `stop` is a refusal: there nothing is written, since nothing was planned.
use Rattle.std.specs.Prelude.{ℕ, zero, suc, ◌+◌, ◌≡◌, List}
use Rattle.std.proofs.Common.{zero-add, suc-add}
use Rattle.choice.specs.Choice.{if_eq, if_le}
use Rattle.bits.specs.First.{first_set}
use Rattle.script.specs.Memory.{Memory, Mark, Write, latest}

-- read a field at a place; look for the first marked list of n from k on; answer; refuse
pub data Script (A : Type 0) : Type 0 where
  read : ℕ → ℕ → (ℕ → Script A) → Script A
  first : ℕ → ℕ → (ℕ → Script A) → Script A
  done : A → Script A
  stop : ℕ → Script A

pub data Result (A : Type 0) : Type 0 where
  ok : A → Result A
  no : ℕ → Result A

module _ {A : Type 0} where
  unfoldable pub run : Memory → Script A → Result A
  run m (read f x k) = run m (k (m f x))
  run m (first n x k) = run m (k (first_set (m Mark) n x))
  run m (done a) = ok a
  run m (stop r) = no r

  -- the answer to any memory takes at most n reads, and i searches of the map
  abbrev pub AtMost : ℕ → Script A → ℕ → Type 0
  AtMost i (read f x k) zero = ⊥
  AtMost i (read f x k) (suc n) = (v : ℕ) → AtMost i (k v) n
  AtMost zero (first m x k) n = ⊥
  AtMost (suc i) (first m x k) n = (v : ℕ) → AtMost i (k v) n
  AtMost i (done a) n = Unit {0}
  AtMost i (stop r) n = Unit {0}

infixl 40 ◌>>=◌
infixl 40 ◌>>◌
abbrev pub ◌>>=◌ : {A B : Type 0} → Script A → (A → Script B) → Script B
◌>>=◌ (read f x k) g = read f x (λ v. k v >>= g)
◌>>=◌ (first n x k) g = first n x (λ v. k v >>= g)
◌>>=◌ (done a) g = g a
◌>>=◌ (stop r) g = stop r

abbrev pub ◌>>◌ : {A B : Type 0} → Script A → Script B → Script B
◌>>◌ s t = s >>= (λ _. t)

-- ---- checks

abbrev pub get : ℕ → ℕ → Script ℕ
get f x = read f x (λ v. done v)

-- refused with r unless it holds
abbrev pub unless_eq : ℕ → ℕ → ℕ → Script (Unit {0})
unless_eq r a b = if_eq a b (done (tt {0})) (stop r)

abbrev pub unless_le : ℕ → ℕ → ℕ → Script (Unit {0})
unless_le r a b = if_le a b (done (tt {0})) (stop r)

-- the records contradict each other: refusal 5
abbrev pub must_eq : ℕ → ℕ → Script (Unit {0})
must_eq a b = unless_eq 5 a b

abbrev pub must_le : ℕ → ℕ → Script (Unit {0})
must_le a b = unless_le 5 a b

abbrev pub must_differ : ℕ → ℕ → Script (Unit {0})
must_differ a b = if_eq a b (stop 5) (done (tt {0}))

-- ---- on the memory m the script ends with the answer a

abbrev pub Gives : {A : Type 0} → Memory → Script A → A → Type 0
Gives m s a = run m s ≡ ok a

-- ---- counting: checks read nothing

pub more : {A : Type 0} (i : ℕ) (s : Script A) (n : ℕ) → AtMost i s n → AtMost i s (suc n)
more i (done a) n h = tt
more i (stop r) n h = tt
more i (read f x k) zero h = absurd h
more i (read f x k) (suc n) h = λ v. more i (k v) n (h v)
more zero (first m x k) n h = absurd h
more (suc i) (first m x k) n h = λ v. more i (k v) n (h v)

pub more_by : {A : Type 0} (i : ℕ) (s : Script A) (n m : ℕ) → AtMost i s m → AtMost i s (n + m)
more_by i s zero m h = rw (zero-add m) h
more_by i s (suc n) m h = rw (suc-add n m) (more i s (n + m) (more_by i s n m h))

-- the first step searches no map
pub few_bind : {A B : Type 0} (i : ℕ) (s : Script A) (f : A → Script B) (n m : ℕ) → AtMost 0 s n → ((a : A) → AtMost i (f a) m) → AtMost i (s >>= f) (n + m)
few_bind i (read g x k) f zero m h q = absurd h
few_bind i (read g x k) f (suc n) m h q = rw (suc-add n m) (λ v. few_bind i (k v) f n m (h v) q)
few_bind i (first l x k) f n m h q = absurd h
few_bind i (done a) f n m h q = more_by i (f a) n m (q a)
few_bind i (stop r) f n m h q = tt

-- ---- a script on the memory as it will be after some writes, run on the memory as it is

unfoldable pub over : {A : Type 0} → List Write → Script A → Script A
over l (read f x k) = read f x (λ v. over l (k (latest l f x v)))
over l (first n x k) = stop 5
over l (done a) = done a
over l (stop r) = stop r

-- ---- what holds of every answer that a script may give, on any memory

abbrev pub Ends : {A : Type 0} → (A → Type 0) → Script A → Type 0
Ends P (read f x k) = (v : ℕ) → Ends P (k v)
Ends P (first n x k) = (v : ℕ) → Ends P (k v)
Ends P (done a) = P a
Ends P (stop r) = Unit {0}
