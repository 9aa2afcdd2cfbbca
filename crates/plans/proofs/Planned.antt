-- What follows from specs/Planned.antt.
use Rattle.std.specs.Prelude.{ℕ, suc, ◌-◌, ◌*◌, ◌≡◌, refl, length}
use Rattle.std.proofs.Common.{arith, sym, ◌∙◌, subst}
use Rattle.bits.specs.First.{first_set}
use Rattle.class.specs.Class.{list_of, start_of}
use Rattle.definition.specs.Calls.{wanted, place, keeps}
use Rattle.script.specs.Memory.{Memory, Next, Prev, Mark, apply}
use Rattle.script.specs.Script.{Script, ok, unless_le, must_eq, over, Gives}
use Rattle.script.proofs.Script.{over_run, gives_bind, gives_done, inv_bind, inv_get, inv_done, inv_eq, inv_le}
use Rattle.sound.proofs.Inverted.{inv_first}
use Rattle.chains.specs.Links.{Head}
use Rattle.chains.specs.Steps.{steps_script}
use Rattle.chains.proofs.Steps.{steps_few, steps_give}
use Rattle.plans.specs.Deeds.{Deed, Plan, early_writes, plan_of, plan_script}
use Rattle.plans.specs.Checks.{must_free, must_be, see_free, see_rest}
use Rattle.plans.specs.Checked.{WholeFree}
use Rattle.plans.proofs.Checked.{free_checked, whole_checked, rest_checked}
use Rattle.plans.specs.Allocate.{Taken, see_first, see_taken}
use Rattle.plans.specs.Planned.{TakenChecked}

pub plan_gives : (m : Memory) (t : Deed) → Gives m (plan_script t) (plan_of m t)
unfolding plan_script
plan_gives m t =
    let w = early_writes m t in
    gives_bind m (steps_script t.early) _ (steps_give m t.early)
    (gives_bind m (over w (steps_script t.late)) _ (over_run m w (steps_script t.late) (4 * length t.late) (steps_few t.late) ∙ steps_give (apply m w) t.late) (gives_done m _))

-- a script gives one answer
pub gives_one : {A : Type 0} (m : Memory) (s : Script A) {a b : A} → Gives m s a → Gives m s b → a ≡ b
gives_one m s {a} {b} g h = let e : ok a ≡ ok b = sym g ∙ h in cc

pub plan_checked : (m : Memory) (t : Deed) {p : Plan} → Gives m (plan_script t) p → plan_of m t ≡ p
plan_checked m t g = gives_one m (plan_script t) (plan_gives m t) g

-- ---- the block that is handed out

pub taken_checked : (n c p a : ℕ) (m : Memory) {t : Taken} → Gives m (see_taken n c p a) t → TakenChecked n c p a m t
unfolding see_taken see_first
taken_checked n c p a m {t} g =
    let u = start_of (wanted p a) in
    let k = first_set (m Mark) (16 * c - u) u in
    let y = m Head k in
    let i1 = inv_bind m (unless_le 1 (suc k) (16 * c)) _ (inv_first m (16 * c - u) u _ g) in
    let i2 = inv_bind m (see_first n k y) _ (inv_get m Head k _ i1.2) in
    let i3 = inv_bind m (see_rest n c i2.0 (keeps (place a y) p)) _ i2.2 in
    let j1 = inv_bind m (see_free n y) _ i2.1 in
    let j2 = inv_bind m (must_eq (list_of j1.0) k) _ j1.2 in
    let j3 = inv_bind m (must_be Prev y y) _ j2.2 in
    let j4 = inv_bind m (must_free n (m Next y)) _ (inv_get m Next y _ j3.2) in
    let j5 = inv_bind m (must_be Prev (m Next y) y) _ j4.2 in
    let e : j1.0 ≡ i2.0 = inv_done m _ _ j5.2 in
    subst (TakenChecked n c p a m) (inv_done m _ t i3.2) (record {
      first = refl;
      small = omega (arith, inv_le m 1 (suc k) (16 * c) i1.1);
      head = refl;
      whole = subst (WholeFree n m y) e (whole_checked m n y j1.1);
      class = subst (λ (s : ℕ). list_of s ≡ k) e (inv_eq m 5 _ _ j2.1);
      alone = inv_eq m 5 _ _ (inv_get m Prev y _ j3.1);
      next = (j4.0, free_checked m n (m Next y) j4.1);
      next_back = inv_eq m 5 _ _ (inv_get m Prev (m Next y) _ j5.1);
      rest = (rest_checked m n c i2.0 (keeps (place a y) p) i3.1).1;
    })
