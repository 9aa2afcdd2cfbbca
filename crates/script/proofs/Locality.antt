-- What follows from specs/Locality.antt.
use Rattle.std.specs.Prelude.{ℕ, ◌+◌, ◌≤◌, ◌<◌, ◌≡◌, refl, List}
use Rattle.std.proofs.Common.{ap, sym, ◌∙◌, inl, inr}
use Rattle.bits.specs.First.{first_set}
use Rattle.bits.proofs.First.{first_agree}
use Rattle.script.specs.Memory.{Memory, Mark, Write, apply, latest}
use Rattle.script.proofs.Memory.{apply_is}
use Rattle.script.specs.Script.{Script, read, first, done, stop, run}
use Rattle.script.specs.Locality.{Reads, DiffersIn, Contained}

-- two memories that agree on what is read give the same answer
pub same_run : {A : Type 0} (m d : Memory) (s : Script A) → ((g y : ℕ) → Reads m s g y → d g y ≡ m g y) → run d s ≡ run m s
unfolding run
same_run m d (read f x k) h = ap (λ (v : ℕ). run d (k v)) (h f x (inl (refl, refl))) ∙ same_run m d (k (m f x)) (λ g y r. h g y (inr r))
same_run m d (first n x k) h =
    ap (λ (v : ℕ). run d (k v)) (first_agree (d Mark) (m Mark) n x (λ j a b. h Mark j (inl (refl, a, b))))
    ∙ same_run m d (k (first_set (m Mark) n x)) (λ g y r. h g y (inr r))
same_run m d (done a) h = refl
same_run m d (stop r) h = refl

-- the same writes leave two memories as far apart as they were
pub same_after : (m d : Memory) (l : List Write) (g y : ℕ) → d g y ≡ m g y → apply d l g y ≡ apply m l g y
same_after m d l g y h = apply_is d l g y ∙ ap (latest l g y) h ∙ sym (apply_is m l g y)

pub contained : {A : Type 0} (D : ℕ → ℕ → Type 0) (m d : Memory) (s : Script A) → DiffersIn D m d → ((g y : ℕ) → Reads m s g y → D g y → ⊥) → Contained D m d s
contained D m d s h r = record {
  answer = same_run m d s (λ g y k. h g y (r g y k));
  after = λ l g y n. same_after m d l g y (h g y n);
}
