-- The number of firmheap's reply is the answer that the contract asks for.
use Rattle.std.specs.Prelude.{ℕ, ◌≡◌, List, [], ◌∷◌, Result, Ok, Err, ⊤, refl}
use Rattle.std.specs.Result.{result_and}
use Rattle.std.proofs.Common.{arith, sym, subst, inl, inr}
use Rattle.sound.specs.RefusedCalls.{Among}
use Rattle.sound.specs.Runs.{Reply, yes, not}
use Rattle.slices.specs.Slices.{Slices}
use Rattle.free_list.specs.Lent.{lent}
use Rattle.calls.specs.Bytes.{ByteCall, allocate, deallocate, reallocate, insert, append}
use Rattle.calls.specs.Begins.{Begins, short, begun}
use Rattle.calls.specs.Promises.{Promise}
use Rattle.calls.specs.Numbers.{refusals}
use Rattle.firmheap.specs.Contract.{Allocates, Deallocates, Reallocates, Initialises, Inserts, Appends}
use Rattle.firmheap.specs.Replies.{taken, done}
use Rattle.refusal.specs.declared.Refusal.{Refusal as Reason}
use Rattle.exports.specs.Answers.{Refusal, number_of, Answers}
use Rattle.exports.specs.Least.{region_least, inserts, appends}
use Rattle.exports.specs.Contract.{Nothing, Offset, Used, InitAnswers, DeallocateAnswers, AllocateAnswers, ReallocateAnswers, InsertAnswers, AppendAnswers}

-- ---- the numbers with which the calls refuse are refusals

-- all numbers of a list are
abbrev All : List ℕ → Type 0
All [] = Unit {0}
All (i ∷ l) = Refusal i × All l

among : (l : List ℕ) (i : ℕ) → All l → Among l i → Refusal i
among [] i a h = absurd h
among (j ∷ l) i a (inl e) = subst Refusal (sym e) a.0
among (j ∷ l) i a (inr h) = among l i a.1 h

one : Refusal 1
one = record { some = omega arith; most = omega arith }

two : Refusal 2
two = record { some = omega arith; most = omega arith }

three : Refusal 3
three = record { some = omega arith; most = omega arith }

four : Refusal 4
four = record { some = omega arith; most = omega arith }

five : Refusal 5
five = record { some = omega arith; most = omega arith }

six : Refusal 6
six = record { some = omega arith; most = omega arith }

all : (k : ByteCall) → All (refusals k)
all (allocate n a) = (six, (two, (five, (one, tt))))
all (deallocate x a) = (six, (two, (three, (five, tt))))
all (reallocate x n a) = (six, (two, (three, (five, (one, tt)))))
all (insert x n) = (six, (four, (five, tt)))
all (append x n) = (six, (four, (five, tt)))

promise_refusal : (S : Slices) (k : ByteCall) (r : Reply) (T : Slices) → Promise S k r T → (i : ℕ) → r ≡ not i → Refusal i
promise_refusal S k r T p i e = among (refusals k) i (all k) (p.numbers i e)

-- ---- the six calls

-- where all is known of the reply
answered : (P : Reply → Type 0) (Q : ℕ → Type 0) → ((x : ℕ) → Q x → Refusal x → ⊥)
    → (v : ℕ) (r : Reply) → P r → v ≡ number_of r → ((x : ℕ) → r ≡ yes x → Q x) → ((i : ℕ) → r ≡ not i → Refusal i) → Answers P Q v
answered P Q f v r p e g n = record { reply = r; promise = p; number = e; granted = g; refused = n; apart = λ x q h. f x (g x q) h }

-- done is counted as 0
pub done_taken : (r : Result ⊤ Reason) → taken (result_and r (Ok 0)) ≡ done r
done_taken (Ok u) = refl
done_taken (Err e) = refl

-- done is 0
done_nothing : (r : Result ⊤ Reason) (x : ℕ) → done r ≡ yes x → x ≡ 0
done_nothing (Ok u) x e = let z : 0 ≡ x = cc in sym z
done_nothing (Err i) x e = let z : ◌≡◌ {A = ℕ} 0 1 = cc in absurd (omega arith)

module _ (a l v b m o : List ℕ) where
  pub allocate_answers : (n al : ℕ) (r : Result ℕ Reason) (k : ℕ) → Allocates a l v n al (taken r) b m o → k ≡ number_of (taken r) → AllocateAnswers a l v n al k b m o
  allocate_answers n al r k p e = answered (λ (q : Reply). Allocates a l v n al q b m o) Offset (λ x q h. omega (arith, q, h.most)) k (taken r) p e
      (λ x q. ((p []).within x q).low) (promise_refusal (lent a l v []) (allocate n al) (taken r) (lent b m o []) (p []).promise)

  pub reallocate_answers : (x n al : ℕ) (r : Result ℕ Reason) (k : ℕ) → Reallocates a l v x n al (taken r) b m o → k ≡ number_of (taken r) → ReallocateAnswers a l v x n al k b m o
  reallocate_answers x n al r k p e = answered (λ (q : Reply). Reallocates a l v x n al q b m o) Offset (λ x q h. omega (arith, q, h.most)) k (taken r) p e
      (λ x q. ((p []).within x q).low) (promise_refusal (lent a l v []) (reallocate x n al) (taken r) (lent b m o []) (p []).promise)

  pub deallocate_answers : (x al : ℕ) (r : Result ⊤ Reason) (k : ℕ) → Deallocates a l v x al (done r) b m o → k ≡ number_of (done r) → DeallocateAnswers a l v x al k b m o
  deallocate_answers x al r k p e = answered (λ (q : Reply). Deallocates a l v x al q b m o) Nothing (λ x q h. omega (arith, q, h.some)) k (done r) p e
      (done_nothing r) (promise_refusal (lent a l v []) (deallocate x al) (done r) (lent b m o []) (p []).promise)

module _ (a l t b m u : List ℕ) (x n : ℕ) (r : Result ℕ Reason) (k : ℕ) where
  pub insert_answers : Inserts a l t x n (taken r) b m u → k ≡ number_of (taken r) → InsertAnswers a l t x n k b m u
  insert_answers p e = answered (λ (q : Reply). Inserts a l t x n q b m u) Used (λ x q h. omega (arith, q, h.most)) k (taken r) p e
      (region_least (lent a l [] t) (insert x n) (taken r) (lent b m [] u) (inserts x n) (p []).exact)
      (promise_refusal (lent a l [] t) (insert x n) (taken r) (lent b m [] u) (p []))

  pub append_answers : Appends a l t x n (taken r) b m u → k ≡ number_of (taken r) → AppendAnswers a l t x n k b m u
  append_answers p e = answered (λ (q : Reply). Appends a l t x n q b m u) Used (λ x q h. omega (arith, q, h.most)) k (taken r) p e
      (region_least (lent a l [] t) (append x n) (taken r) (lent b m [] u) (appends x n) (p []).exact)
      (promise_refusal (lent a l [] t) (append x n) (taken r) (lent b m [] u) (p []))

-- an empty heap is refused with 6 alone
begins_refusal : (S : Slices) (r : Reply) (T : Slices) → Begins S r T → (i : ℕ) → r ≡ not i → Refusal i
begins_refusal S r T (short f) i e = let z : 6 ≡ i = cc in subst Refusal z six
begins_refusal S r T (begun Q f g) i e = let z : ◌≡◌ {A = ℕ} 0 1 = cc in absurd (omega arith)

pub init_answers : (a l v t m o u : List ℕ) (r : Result ⊤ Reason) (k : ℕ) → Initialises a l v t (done r) m o u → k ≡ number_of (done r) → InitAnswers a l v t k m o u
init_answers a l v t m o u r k p e = answered (λ (q : Reply). Initialises a l v t q m o u) Nothing (λ x q h. omega (arith, q, h.some)) k (done r) p e
    (done_nothing r) (begins_refusal (lent a l v t) (done r) (lent a m o u) p.exact)
