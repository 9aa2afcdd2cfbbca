-- A script whose answer depends on whether something holds of the memory: it gives x if P holds, and refuses with 5 if not
-- (`Decides`). What a check asks of the memory is put together step by step, as the script is.
use Rattle.std.specs.Prelude.{ℕ, suc, ◌≤◌, ◌<◌, ◌≡◌, Bool, true, false, ◌⊎◌}
use Rattle.std.proofs.Common.{arith, ◌∙◌, inl, inr, ⊎_elim}
use Rattle.choice.specs.Choice.{same?, le?}
use Rattle.choice.specs.Says.{Says}
use Rattle.script.specs.Memory.{Memory}
use Rattle.script.specs.Script.{Script, read, done, ok, no, run, ◌>>=◌, must_eq, must_le}
use Rattle.script.proofs.Script.{goes, halts, gives_done, gives_eq, gives_le, halts_eq, halts_le}
use Rattle.entries.specs.Answers.{answer}

pub record Decides {A : Type 0} (m : Memory) (s : Script A) (x : A) (P : Type 0) : Type 0 where
  pub gives : P → run m s ≡ ok x
  pub refuses : (P → ⊥) → run m s ≡ no 5
  pub either : P ⊎ (P → ⊥)

-- so a function that says whether P holds has the script's answer
pub decided : {A : Type 0} {m : Memory} {s : Script A} {x : A} {P : Type 0} → Decides m s x P → (r : Bool) → Says P r → run m s ≡ answer r x
decided d true h = d.gives h
decided d false h = d.refuses h

module _ (m : Memory) where
  -- the same, said in another way
  pub decides_as : {A : Type 0} (s : Script A) {x : A} {P Q : Type 0} → (P → Q) → (Q → P) → Decides m s x P → Decides m s x Q
  decides_as s f g d = record {
    gives = λ h. d.gives (g h);
    refuses = λ n. d.refuses (λ h. n (f h));
    either = ⊎_elim (λ h. inl (f h)) (λ n. inr (λ h. n (g h))) d.either;
  }

  -- ---- single checks

  pub decides_eq : (a b : ℕ) → Decides m (must_eq a b) (tt {0}) (a ≡ b)
  decides_eq a b = record { gives = gives_eq m 5 a b; refuses = halts_eq m 5 a b; either = same? a b }

  pub decides_le : (a b : ℕ) → Decides m (must_le a b) (tt {0}) (a ≤ b)
  decides_le a b = record {
    gives = gives_le m 5 a b;
    refuses = λ n. halts_le m 5 a b (omega (arith, n));
    either = ⊎_elim (λ h. inl h) (λ h. inr (λ k. omega arith)) (le? a b);
  }

  pub decides_lt : (a b : ℕ) → Decides m (must_le (suc a) b) (tt {0}) (a < b)
  decides_lt a b = decides_as (must_le (suc a) b) (λ h. omega arith) (λ h. omega arith) (decides_le (suc a) b)

  -- ---- one step after another

  pub decides_read : {A : Type 0} (f y : ℕ) (k : ℕ → Script A) {x : A} {P : Type 0} → Decides m (k (m f y)) x P → Decides m (read f y k) x P
  unfolding run
  decides_read f y k d = record { gives = d.gives; refuses = d.refuses; either = d.either }

  pub decides_then : {A B : Type 0} (s : Script A) (f : A → Script B) {x : A} {y : B} {P Q : Type 0}
      → Decides m s x P → Decides m (f x) y Q → Decides m (s >>= f) y (P × Q)
  decides_then s f p q = record {
    gives = λ h. goes m s f (p.gives h.0) ∙ q.gives h.1;
    refuses = λ n. ⊎_elim (λ h. goes m s f (p.gives h) ∙ q.refuses (λ k. n (h, k))) (λ k. halts m s f (p.refuses k)) p.either;
    either = ⊎_elim (λ h. ⊎_elim (λ k. inl (h, k)) (λ k. inr (λ w. k w.1)) q.either) (λ k. inr (λ w. k w.0)) p.either;
  }

  -- the last step, after which an answer is given
  pub decides_last : {A B : Type 0} (s : Script A) (y : B) {x : A} {P : Type 0} → Decides m s x P → Decides m (s >>= λ _. done y) y P
  decides_last s y p = record {
    gives = λ h. goes m s (λ _. done y) (p.gives h) ∙ gives_done m y;
    refuses = λ n. halts m s (λ _. done y) (p.refuses n);
    either = p.either;
  }
