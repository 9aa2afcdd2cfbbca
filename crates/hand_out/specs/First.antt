-- The first block of a list: what is asked of its words, once its tags agree.
use Rattle.std.specs.Prelude.{ℕ, ◌<◌, ◌≡◌, Bool, List}
use Rattle.std.proofs.Common.{arith, ◌∙◌}
use Rattle.std.proofs.Math.Path.{subst}
use Rattle.choice.specs.Says.{Says}
use Rattle.class.specs.Class.{list_of}
use Rattle.script.specs.Memory.{Memory, Next, Prev}
use Rattle.script.specs.Script.{Script, ok, no, done, run, get, must_eq, ◌>>=◌, ◌>>◌}
use Rattle.script.proofs.Script.{goes, halts, inv_bind, inv_get, inv_done, inv_eq}
use Rattle.lent.specs.Slices.{grains, memory_of, next_at, prev_at}
use Rattle.plans.specs.Checks.{must_free, must_be, see_free}
use Rattle.plans.proofs.Checked.{whole_checked}
use Rattle.plans.specs.Allocate.{see_first}
use Rattle.entries.specs.Answers.{held, answer}
use Rattle.entries.specs.Decides.{Decides, decided, decides_eq, decides_read, decides_then, decides_last}
use Rattle.entries.specs.Agrees.{Begins}
use Rattle.entries.specs.Seen.{begins_decides}

-- y, of s grains, is of list k, and the first of it; x is its next
abbrev pub Firstly : List ℕ → List ℕ → ℕ → ℕ → ℕ → ℕ → Type 0
Firstly a t k y s x = (list_of s ≡ k) × ((prev_at a y ≡ y) × (Begins a t x × (prev_at a x ≡ y)))

module _ (a l t g : List ℕ) where
  abbrev m : Memory
  m = held a l t g

  -- the script after the block's tags
  abbrev after : ℕ → ℕ → ℕ → Script ℕ
  after k y s = do
    must_eq (list_of s) k
    must_be Prev y y
    x ← get Next y
    _ ← must_free (grains a) x
    must_be Prev x y
    done s

  first_decides : (k y s : ℕ) → Decides m (after k y s) s (Firstly a t k y s (next_at a y))
  unfolding memory_of
  first_decides k y s =
      let x = next_at a y in
      decides_then m (must_eq (list_of s) k) _ (decides_eq m (list_of s) k)
      (decides_then m (must_be Prev y y) _ (decides_read m Prev y _ (decides_eq m (prev_at a y) y))
      (decides_read m Next y _
      (decides_then m (must_free (grains a) x) _ (begins_decides a l t g x)
      (decides_last m (must_be Prev x y) s (decides_read m Prev x _ (decides_eq m (prev_at a x) y))))))

  pub first_bad : (k y i : ℕ) → run m (see_free (grains a) y) ≡ no i → run m (see_first (grains a) k y) ≡ no i
  unfolding see_first
  first_bad k y i h = halts m (see_free (grains a) y) _ h

  pub first_found : (k y s : ℕ) → run m (see_free (grains a) y) ≡ ok s → (x : ℕ) → x ≡ next_at a y → (r : Bool) → Says (Firstly a t k y s x) r
      → run m (see_first (grains a) k y) ≡ answer r s
  unfolding see_first
  first_found k y s h x e r w =
      goes m (see_free (grains a) y) _ h ∙ decided (first_decides k y s) r (subst (λ (z : ℕ). Says (Firstly a t k y s z) r) e w)

  -- what is known of the first block of list k
  pub first_holds : (k y s : ℕ) → run m (see_first (grains a) k y) ≡ ok s → (y < grains a) × (0 < s) × (list_of s ≡ k)
  unfolding see_first
  first_holds k y s h =
      let i = inv_bind m (see_free (grains a) y) _ h in
      let w = whole_checked m (grains a) y i.1 in
      let j = inv_bind m (must_eq (list_of i.0) k) _ i.2 in
      let f = inv_bind m (must_be Prev y y) _ j.2 in
      let n = inv_bind m (must_free (grains a) (m Next y)) _ (inv_get m Next y _ f.2) in
      let b = inv_bind m (must_be Prev (m Next y) y) _ n.2 in
      let e : i.0 ≡ s = inv_done m i.0 s b.2 in
      (w.starts.inside, omega (arith, w.starts.some), subst (λ (z : ℕ). list_of z ≡ k) e (inv_eq m 5 (list_of i.0) k j.1))
