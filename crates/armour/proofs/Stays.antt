-- What follows from specs/Stays.antt.
use Rattle.std.specs.Prelude.{ℕ, ◌+◌, ◌≤◌, ◌<◌, ◌≡◌, List, [], ◌∷◌, ◌++◌}
use Rattle.std.proofs.Common.{arith, ap, sym, ◌∙◌, subst, inl, inr, ⊎_elim}
use Rattle.choice.specs.Choice.{upd_same, upd_other, same?}
use Rattle.definition.specs.Blocks.{Block, free, used}
use Rattle.invariants.specs.Order.{out, Ordered, BlockAt, Apart, same, before, behind}
use Rattle.invariants.proofs.Order.{apart, at_whole}
use Rattle.invariants.specs.Members.{Mem}
use Rattle.invariants.specs.Moves.{free_used}
use Rattle.script.specs.Memory.{Memory, Next, Prev, Write, ◌at◌≔◌, apply, Spared}
use Rattle.script.proofs.Memory.{apply_append, apply_spared, apply_untouched}
use Rattle.machine.specs.Machine.{guard_next, guard_prev}
use Rattle.tags.specs.Each.{Each}
use Rattle.chains.specs.Steps.{steps_writes}
use Rattle.plans.specs.Deeds.{Deed, Plan, guard_writes, early_writes, plan_of, writes, after}
use Rattle.plans.specs.Checked.{GuardStands}
use Rattle.armour.specs.Row.{Guarded, Free, Either}
use Rattle.armour.specs.Turns.{Turns, Proper, Armoured}
use Rattle.armour.proofs.Turns.{linked, stepped, after_is, records_rest, steps_proper, turns_armoured}
use Rattle.armour.specs.Stays.{InUse}

-- no free block starts in a used one
pub not_free : (xs : List Block) → Ordered out xs → (x s d y : ℕ) → BlockAt x (used s d) 0 xs → x ≤ y → y < x + s → Free xs y → ⊥
not_free xs o x s d y a p q f = go (apart x y 0 (used s d) (free f.0) xs a f.1)
  where
    go : Apart x (used s d) y (free f.0) → ⊥
    go (same e g) = free_used g
    go (before e) = omega arith
    go (behind e) = omega (arith, at_whole y (free f.0) 0 out xs o f.1)

pub not_either : (xs ys : List Block) (y : ℕ) → Ordered out xs → Ordered out ys → InUse xs ys y → Either xs ys y → ⊥
not_either xs ys y o v u (inl f) = not_free xs o u.x u.s u.d y u.was u.low u.high f
not_either xs ys y o v u (inr f) = not_free ys v u.z u.t u.e y u.is u.floor u.ceiling f

-- proper writes spare it
pub proper_spares : (xs ys : List Block) (y : ℕ) → Ordered out xs → Ordered out ys → InUse xs ys y → (w : List Write) → Each (Proper xs ys) w → Spared Next y w × Spared Prev y w
proper_spares xs ys y o v u [] h = (tt, tt)
proper_spares xs ys y o v u (w ∷ l) h =
    let i = proper_spares xs ys y o v u l h.1 in (
      ((λ e q. not_either xs ys y o v u (subst (Either xs ys) q (h.0 (inl e)))), i.0),
      ((λ e q. not_either xs ys y o v u (subst (Either xs ys) q (h.0 (inr e)))), i.1),
    )

-- T7, from the tags alone: the words of a grain in use before and after stay, whatever the links say
pub words_stay : (n c : ℕ) (m : Memory) (xs : List Block) (t : Plan) (ys : List Block) → Ordered out xs → Armoured n c m xs t ys → (y : ℕ) → InUse xs ys y
    → (after m t Next y ≡ m Next y) × (after m t Prev y ≡ m Prev y)
words_stay n c m xs t ys o a y u =
    let s = proper_spares xs ys y o a.row.order u (writes t) a.proper in
    (apply_spared m (writes t) Next y s.0, apply_spared m (writes t) Prev y s.1)

-- ---- guards

-- a guard that stands stays when guards are written
guard_kept : (m : Memory) (x : ℕ) (l : List ℕ) → GuardStands m x → GuardStands (apply m (guard_writes l)) x
guard_kept m x [] h = h
guard_kept m x (y ∷ l) h = guard_kept (apply m ((Next at y ≔ guard_next y) ∷ (Prev at y ≔ guard_prev y) ∷ [])) x l (⊎_elim
    (λ (e : x ≡ y). (upd_same (m Next) y (guard_next y) x e ∙ ap guard_next (sym e), upd_same (m Prev) y (guard_prev y) x e ∙ ap guard_prev (sym e)))
    (λ (e : x ≡ y → ⊥). (upd_other (m Next) y (guard_next y) x e ∙ h.0, upd_other (m Prev) y (guard_prev y) x e ∙ h.1))
    (same? x y))

-- and one that is written stands
guard_set : (m : Memory) (x : ℕ) (l : List ℕ) → Mem x l → GuardStands (apply m (guard_writes l)) x
guard_set m x [] x3 = elim x3 [ ]
guard_set m x (y ∷ l) (inl e) = guard_kept (apply m ((Next at y ≔ guard_next y) ∷ (Prev at y ≔ guard_prev y) ∷ [])) x l
    (upd_same (m Next) y (guard_next y) x e ∙ ap guard_next (sym e), upd_same (m Prev) y (guard_prev y) x e ∙ ap guard_prev (sym e))
guard_set m x (y ∷ l) (inr h) = guard_set (apply m ((Next at y ≔ guard_next y) ∷ (Prev at y ≔ guard_prev y) ∷ [])) x l h

-- every used block has its guard after the call, if it had before
pub turns_guarded : (n c : ℕ) (m : Memory) (xs : List Block) (t : Deed) (ys : List Block) → Ordered out xs → Turns n c m xs t ys → Guarded m xs → Guarded (after m (plan_of m t)) ys
turns_guarded n c m xs t ys o v g x s d b =
    let e = after_is m t in
    let r = t.records in
    let q : GuardStands (linked m t) x = ⊎_elim
    (λ (i : Mem x t.guards). guard_set (stepped m t) x t.guards i)
    (λ (i : (u : ℕ) × (e : ℕ) × BlockAt x (used u e) 0 xs). guard_kept (stepped m t) x t.guards (before_call i.0 i.1 i.2))
    (v.used_before x s d b) in (
      ap (λ (u : Memory). u Next x) e ∙ ap (λ (f : ℕ → ℕ). f x) (apply_untouched (linked m t) r Next (records_rest Next (omega arith) (omega arith) r v.records)) ∙ q.0,
      ap (λ (u : Memory). u Prev x) e ∙ ap (λ (f : ℕ → ℕ). f x) (apply_untouched (linked m t) r Prev (records_rest Prev (omega arith) (omega arith) r v.records)) ∙ q.1,
    )
  where
    before_call : (u f : ℕ) → BlockAt x (used u f) 0 xs → GuardStands (stepped m t) x
    before_call u f i =
        let a = turns_armoured n c m xs t ys v in
        let w = early_writes m t ++ steps_writes (apply m (early_writes m t)) t.late in
        let k = proper_spares xs ys x o a.row.order (record {
          x = x;
          s = u;
          d = f;
          was = i;
          low = omega arith;
          high = omega (arith, (at_whole x (used u f) 0 out xs o i).0);
          z = x;
          t = s;
          e = d;
          is = b;
          floor = omega arith;
          ceiling = omega (arith, (at_whole x (used s d) 0 out ys a.row.order b).0);
        }) w (steps_proper n c m xs t ys v) in
        let h = g x u f i in
        (stepped_is Next ∙ apply_spared m w Next x k.0 ∙ h.0, stepped_is Prev ∙ apply_spared m w Prev x k.1 ∙ h.1)
      where
        stepped_is : (i : ℕ) → stepped m t i x ≡ apply m (early_writes m t ++ steps_writes (apply m (early_writes m t)) t.late) i x
        stepped_is i = ap (λ (u : Memory). u i x) (sym (apply_append m (early_writes m t) (steps_writes (apply m (early_writes m t)) t.late)))
