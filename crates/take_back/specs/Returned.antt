-- The checks of deallocate as one script, whose answer is all that the deed depends on.
use Rattle.std.specs.Prelude.{ℕ, ◌+◌, ◌-◌, ◌*◌, ◌≡◌}
use Rattle.std.proofs.Math.Path.{sym}
use Rattle.std.proofs.Common.{◌∙◌}
use Rattle.script.specs.Memory.{Memory}
use Rattle.script.specs.Script.{Script, ok, no, done, run, ◌>>=◌, ◌>>◌}
use Rattle.script.proofs.Script.{goes, halts, alike, bind_assoc}
use Rattle.plans.specs.Deeds.{Deed, Plan, plan_of, plan_script}
use Rattle.plans.specs.Checks.{see_owner, see_guard, see_after, see_before, see_join}
use Rattle.plans.proofs.Planned.{plan_gives}
use Rattle.plans.specs.Deallocate.{deallocate_deed, deallocate_script}

-- a block of s grains at x, with some free grains before it and after it
pub record Freed : Type 0 where
  pub at : ℕ
  pub grains : ℕ
  pub before : ℕ
  pub after : ℕ

-- the payload at q is returned
abbrev pub freed_deed : ℕ → Freed → Deed
freed_deed q f = deallocate_deed f.at f.grains (q - 2 * f.at) f.before f.after

-- once the block after it is known
unfoldable pub joined : ℕ → ℕ → ℕ → ℕ → ℕ → Script Freed
joined n c x s b = do
  a ← see_before n c x
  see_join n c (a + (s + b))
  done (record { at = x; grains = s; before = a; after = b })

-- once the block is known
unfoldable pub sides : ℕ → ℕ → ℕ → ℕ → Script Freed
sides n c x s = do
  see_guard x
  b ← see_after n c (x + s)
  joined n c x s b

unfoldable pub see_returned : ℕ → ℕ → ℕ → Script Freed
see_returned n c q = do
  o ← see_owner n q
  sides n c o.at o.grains

-- ---- they are those of deallocate

-- the payload at q is freed as f says
abbrev freeing : ℕ → Freed → Script Plan
freeing q f = plan_script (freed_deed q f)

module _ (m : Memory) where
  module _ (n c q : ℕ) where
    joined_then : (x s b : ℕ) → run m (joined n c x s b >>= freeing q)
        ≡ run m (see_before n c x >>= λ a. see_join n c (a + (s + b)) >> plan_script (deallocate_deed x s (q - 2 * x) a b))
    unfolding joined
    joined_then x s b = bind_assoc m (see_before n c x) _ (freeing q) ∙ alike m (see_before n c x) _ _ (λ a. bind_assoc m (see_join n c (a + (s + b))) _ (freeing q))

    sides_then : (x s : ℕ) → run m (sides n c x s >>= freeing q)
        ≡ run m (see_guard x >> (see_after n c (x + s) >>= λ b. see_before n c x >>= λ a. see_join n c (a + (s + b)) >> plan_script (deallocate_deed x s (q - 2 * x) a b)))
    unfolding sides
    sides_then x s =
        bind_assoc m (see_guard x) _ (freeing q)
        ∙ alike m (see_guard x) _ _ (λ _. bind_assoc m (see_after n c (x + s)) _ (freeing q) ∙ alike m (see_after n c (x + s)) _ _ (λ b. joined_then x s b))

    returned_then : run m (deallocate_script n c q) ≡ run m (see_returned n c q >>= freeing q)
    unfolding deallocate_script see_returned
    returned_then = sym (bind_assoc m (see_owner n q) _ (freeing q) ∙ alike m (see_owner n q) _ _ (λ o. sides_then o.at o.grains))

    -- a refusal, and a plan
    pub returned_refused : (i : ℕ) → run m (see_returned n c q) ≡ no i → run m (deallocate_script n c q) ≡ no i
    returned_refused i h = returned_then ∙ halts m (see_returned n c q) (freeing q) h

    pub returned_planned : (f : Freed) → run m (see_returned n c q) ≡ ok f → run m (deallocate_script n c q) ≡ ok (plan_of m (freed_deed q f))
    returned_planned f h = returned_then ∙ goes m (see_returned n c q) (freeing q) h ∙ plan_gives m (freed_deed q f)
