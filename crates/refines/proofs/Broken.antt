-- A guard that does not stand, where the tags are those of blocks and everything else may be anything: deallocate and reallocate
-- refuse the payload of that block with 5, and write nothing.
-- For a crane engineer: where a module writes past the end of its buffer and changes the guard of the next block, the heap finds
-- it when the next block is returned or resized.
use Rattle.std.specs.Prelude.{ℕ, ◌+◌, ◌*◌, ◌≡◌, refl, List}
use Rattle.std.proofs.Common.{sym, ◌∙◌, subst, ⊎_elim}
use Rattle.choice.specs.Choice.{same?}
use Rattle.definition.specs.Blocks.{Block, used}
use Rattle.invariants.specs.Order.{BlockAt}
use Rattle.script.specs.Memory.{Memory, Next, Prev}
use Rattle.script.specs.Script.{run, no}
use Rattle.script.proofs.Script.{goes, reads, halts, halts_eq}
use Rattle.machine.specs.Machine.{guard_next, guard_prev}
use Rattle.plans.specs.Checks.{must_be, see_owner, see_guard}
use Rattle.plans.specs.Checked.{GuardStands}
use Rattle.plans.specs.Deallocate.{deallocate_script}
use Rattle.plans.specs.Reallocate.{reallocate_script}
use Rattle.plans.specs.Calls.{Call, Allocate, Deallocate, Reallocate, Insert, Append, script_of}
use Rattle.armour.specs.Row.{Row}
use Rattle.armour.specs.Dead.{Names}
use Rattle.refines.proofs.Seen.{gives_be}
use Rattle.refines.proofs.SeenOwner.{owner_gives}

be_refused : (m : Memory) (f x y : ℕ) → (m f x ≡ y → ⊥) → run m (must_be f x y) ≡ no 5
be_refused m f x y e = reads m f x _ refl ∙ halts_eq m 5 (m f x) y e

guard_refused : (m : Memory) (x : ℕ) → (GuardStands m x → ⊥) → run m (see_guard x) ≡ no 5
unfolding see_guard
guard_refused m x broken = ⊎_elim
    (λ (e : m Next x ≡ guard_next x). goes m (must_be Next x (guard_next x)) _ (gives_be m Next x (guard_next x) e) ∙ be_refused m Prev x (guard_prev x) (λ i. broken (e, i)))
    (λ (e : m Next x ≡ guard_next x → ⊥). halts m (must_be Next x (guard_next x)) _ (be_refused m Next x (guard_next x) e))
    (same? (m Next x) (guard_next x))

module _ (n c : ℕ) (m : Memory) (xs : List Block) (o : Row n c m xs) (x s d : ℕ) (b : BlockAt x (used s d) 0 xs) (broken : GuardStands m x → ⊥) where
  pub deallocate_broken : run m (deallocate_script n c (2 * x + d)) ≡ no 5
  unfolding deallocate_script
  deallocate_broken = goes m (see_owner n (2 * x + d)) _ (owner_gives n c m xs o x s d b) ∙ halts m (see_guard x) _ (guard_refused m x broken)

  pub reallocate_broken : (p a : ℕ) → run m (reallocate_script n c (2 * x + d) p a) ≡ no 5
  unfolding reallocate_script
  reallocate_broken p a = goes m (see_owner n (2 * x + d)) _ (owner_gives n c m xs o x s d b) ∙ halts m (see_guard x) _ (guard_refused m x broken)

  pub call_broken : (most : ℕ) (k : Call) → Names k (2 * x + d) → run m (script_of n c most k) ≡ no 5
  call_broken most (Allocate p a) i = absurd i
  call_broken most (Deallocate v) i = subst (λ (q : ℕ). run m (deallocate_script n c q) ≡ no 5) (sym i) deallocate_broken
  call_broken most (Reallocate v p a) i = subst (λ (q : ℕ). run m (reallocate_script n c q p a) ≡ no 5) (sym i) (reallocate_broken p a)
  call_broken most (Insert g len) i = absurd i
  call_broken most (Append g len) i = absurd i
