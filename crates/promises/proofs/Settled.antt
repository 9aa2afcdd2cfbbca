-- What follows from specs/Settled.antt.
use Rattle.std.specs.Prelude.{ℕ, ◌+◌, ◌-◌, ◌*◌, ◌≤◌, ◌<◌, ◌≡◌, ◌⊎◌}
use Rattle.std.proofs.Common.{arith, ⊎_elim}
use Rattle.std.proofs.Math.Path.{refl}
use Rattle.std.proofs.Math.Logic.{inl, inr}
use Rattle.choice.specs.Choice.{eq_case, le_case, le?}
use Rattle.definition.specs.Calls.{place, keeps}
use Rattle.script.specs.Script.{Ends, over}
use Rattle.script.proofs.Script.{ends_bind, ends_any}
use Rattle.chains.specs.Steps.{steps_script}
use Rattle.plans.specs.Deeds.{Deed, Plan, plan_script}
use Rattle.plans.specs.Checks.{see_owner, see_guard, see_after, see_before, see_rest, see_join}
use Rattle.plans.specs.Allocate.{allocate_deed, see_taken, allocate_script}
use Rattle.plans.specs.Deallocate.{deallocate_deed, deallocate_script}
use Rattle.plans.specs.Reallocate.{elsewhere_script, down_script, move_script, stretch_script, resize_script, reallocate_script}
use Rattle.promises.specs.Settled.{Counted, Settled}

-- where a block of s grains, whose payload's place is d, is too short for p, its payload is shorter
less : (s d p b : ℕ) → s + b < keeps d p → (2 * s - d ≡ 0) ⊎ (2 * s - d < p)
less s d p b h = ⊎_elim (λ (e : 2 * s ≤ d). inl (omega arith)) (λ (e : d < 2 * s). inr (omega arith)) (le? (2 * s) d)

-- a plan keeps what its deed says
plan_ends : (P : ℕ → ℕ → Type 0) (t : Deed) → P t.answer t.moved → Ends (λ (p : Plan). P p.answer p.moved) (plan_script t)
unfolding plan_script
plan_ends P t h =
    ends_any _ (steps_script t.early) _ λ w.
    ends_any _ (over w (steps_script t.late)) _ λ v. h

pub allocate_counted : (n c p a : ℕ) → Ends (λ (t : Plan). Counted a t.answer) (allocate_script n c p a)
unfolding allocate_script
allocate_counted n c p a = ends_any _ (see_taken n c p a) _ λ t. plan_ends (λ v _. Counted a v) (allocate_deed p a t) (t.block, refl)

-- deallocate answers 0
pub deallocate_answers : (n c q : ℕ) → Ends (λ (t : Plan). t.answer ≡ 0) (deallocate_script n c q)
unfolding deallocate_script
deallocate_answers n c q =
    ends_any _ (see_owner n q) _ λ o.
    ends_any _ (see_guard o.at) _ λ _.
    ends_any _ (see_after n c (o.at + o.grains)) _ λ b.
    ends_any _ (see_before n c o.at) _ λ a.
    ends_any _ (see_join n c (a + (o.grains + b))) _ λ _.
    plan_ends (λ v _. v ≡ 0) (deallocate_deed o.at o.grains (q - 2 * o.at) a b) refl

module _ (n c q p a x s d : ℕ) where
  abbrev Settles : Deed → Type 0
  Settles t = Settled q p a t.answer t.moved

  elsewhere_settled : (i b : ℕ) → s + b < keeps d p → Ends Settles (elsewhere_script n c p a x s d i b)
  unfolding elsewhere_script
  elsewhere_settled i b gt = ends_any Settles (see_taken n c p a) _ λ t. ends_any Settles (see_join n c (i + (s + b))) _ λ _.
      record { from = inr (t.block, refl); fewer = less s d p b gt }

  resize_settled : Ends Settles (resize_script n c q p a x s d)
  unfolding resize_script stretch_script move_script down_script
  resize_settled = eq_case (Ends Settles) (keeps d p) s _ _ (λ _. record { from = inl refl; fewer = inl refl }) λ _.
      ends_any Settles (see_after n c (x + s)) _ λ b.
      le_case (Ends Settles) (keeps d p) (s + b) _ _
      (λ _. ends_any Settles (see_rest n c (s + b) (keeps d p)) _ λ _. record { from = inl refl; fewer = inl refl })
      (λ gt. ends_any Settles (see_before n c x) _ λ i.
      eq_case (Ends Settles) i 0 _ _ (λ _. elsewhere_settled 0 b gt) λ _.
      le_case (Ends Settles) (keeps (place a (x - i)) p) (i + (s + b)) _ _
      (λ _. ends_any Settles (see_rest n c (i + (s + b)) (keeps (place a (x - i)) p)) _ λ _. record { from = inr (x - i, refl); fewer = less s d p b gt })
      (λ _. elsewhere_settled i b gt))

pub reallocate_settled : (n c q p a : ℕ) → Ends (λ (t : Plan). Settled q p a t.answer t.moved) (reallocate_script n c q p a)
unfolding reallocate_script
reallocate_settled n c q p a =
    ends_any _ (see_owner n q) _ λ o.
    ends_any _ (see_guard o.at) _ λ _.
    ends_bind (λ (t : Deed). Settled q p a t.answer t.moved) _ (resize_script n c q p a o.at o.grains (q - 2 * o.at)) _
    (resize_settled n c q p a o.at o.grains (q - 2 * o.at)) λ t h. plan_ends (Settled q p a) t h
