-- What follows from specs/Closed.antt.
use Rattle.std.specs.Prelude.{ℕ, ◌≡◌, refl, List, [], ◌∷◌, ◌++◌}
use Rattle.std.proofs.Common.{ap, sym, ◌∙◌, subst, inl, inr, ⊎_elim}
use Rattle.choice.specs.Choice.{if_eq, eq_case, upd, upd_same, upd_other, upd_each, same?}
use Rattle.script.specs.Memory.{Memory, Next, Prev, Mark, apply}
use Rattle.script.proofs.Memory.{apply_append}
use Rattle.tags.specs.Each.{Each}
use Rattle.tags.proofs.Each.{each_append}
use Rattle.chains.specs.Links.{Head, mark_left, next_of}
use Rattle.chains.specs.Steps.{Step, leave, enter, step_writes, steps_writes}
use Rattle.chains.specs.Closed.{Bounds, LinkWrite, at_next, at_prev, at_head, at_mark, Headed, Ready, Shown, Fit}

-- a function that is changed at one place keeps what holds of the new value and of the old
upd_keeps : (P : ℕ → Type 0) (f : ℕ → ℕ) (x v u : ℕ) → P v → P (f u) → P (upd f x v u)
upd_keeps P f x v u p q = ⊎_elim (λ e. subst P (sym (upd_same f x v u e)) p) (λ n. subst P (sym (upd_other f x v u n)) q) (same? u x)

-- a list with no mark keeps none
zero_left : (y x p b : ℕ) → b ≡ 0 → mark_left y x p b ≡ 0
zero_left y x p b e = eq_case (λ (w : ℕ). w ≡ 0) x y _ _ (λ _. eq_case (λ (w : ℕ). w ≡ 0) p y _ _ (λ _. refl) (λ _. e)) (λ _. e)

module _ (o : Bounds) (fit : Fit o) where
  -- ---- one step

  module _ (m : Memory) (shown : Shown o m) (k y : ℕ) where
    module _ (n : o.F (m Next y)) (p : o.F (m Prev y)) where
      new_next : o.F (if_eq (m Next y) y (m Prev y) (m Next y))
      new_next = eq_case o.F (m Next y) y _ _ (λ _. p) (λ _. n)

      new_prev : o.F (if_eq (m Prev y) y (m Next y) (m Prev y))
      new_prev = eq_case o.F (m Prev y) y _ _ (λ _. n) (λ _. p)

      left_mark : o.B (mark_left y (m Next y) (m Prev y) (m Mark k))
      left_mark = eq_case o.B (m Next y) y _ _ (λ _. eq_case o.B (m Prev y) y _ _ (λ _. fit.clear) (λ _. shown.marks k)) (λ _. shown.marks k)

      left_head : o.H (if_eq (m Prev y) y (m Next y) (m Head k))
      left_head = eq_case o.H (m Prev y) y _ _ (λ _. fit.head _ n) (λ _. shown.heads k)

      leave_writes_lem : o.L k → Each (LinkWrite o) (step_writes m (leave k y))
      leave_writes_lem l = (at_next p new_next, (at_prev n new_prev, (at_head l left_head, (at_mark l left_mark, tt))))

      pub leave_shown : Shown o (apply m (step_writes m (leave k y)))
      leave_shown = record {
        heads = upd_each (λ _. o.H) (m Head) k _ left_head (λ j _. shown.heads j);
        marks = upd_each (λ _. o.B) (m Mark) k _ left_mark (λ j _. shown.marks j);
      }

      next_still : (u : ℕ) → o.F (m Next u) → o.F (apply m (step_writes m (leave k y)) Next u)
      next_still u h = upd_keeps o.F (m Next) (m Prev y) _ u new_next h

      prev_still : (u : ℕ) → o.F (m Prev u) → o.F (apply m (step_writes m (leave k y)) Prev u)
      prev_still u h = upd_keeps o.F (m Prev) (m Next y) _ u new_prev h

      head_still : (j : ℕ) → Headed o.F m j → Headed o.F (apply m (step_writes m (leave k y))) j
      head_still j h = ⊎_elim
          (λ (e : j ≡ k). ⊎_elim
          (λ (q : m Mark j ≡ 0). inl (upd_same (m Mark) k _ j e ∙ zero_left y (m Next y) (m Prev y) (m Mark k) (ap (m Mark) (sym e) ∙ q)))
          (λ (q : o.F (m Head j)). inr (subst o.F (sym (upd_same (m Head) k _ j e)) (eq_case o.F (m Prev y) y _ _ (λ _. n) (λ _. subst (λ (i : ℕ). o.F (m Head i)) e q)))) h)
          (λ (a : j ≡ k → ⊥). ⊎_elim
          (λ (q : m Mark j ≡ 0). inl (upd_other (m Mark) k _ j a ∙ q))
          (λ (q : o.F (m Head j)). inr (subst o.F (sym (upd_other (m Head) k _ j a)) q)) h)
          (same? j k)

      pub leave_ready : (l : List Step) → Ready o m l → Ready o (apply m (step_writes m (leave k y))) l
      leave_ready [] r = tt
      leave_ready (leave j u ∷ l) r = ((r.0.0, next_still u r.0.1, prev_still u r.0.2), leave_ready l r.1)
      leave_ready (enter j u ∷ l) r = ((r.0.0, r.0.1, head_still j r.0.2), leave_ready l r.1)

    module _ (i : o.F y) (h : Headed o.F m k) where
      before : o.F (next_of y (m Mark k) (m Head k))
      before = eq_case o.F (m Mark k) 0 _ _ (λ _. i) (λ n. ⊎_elim (λ (e : m Mark k ≡ 0). absurd (n e)) (λ (q : o.F (m Head k)). q) h)

      enter_writes_lem : o.L k → Each (LinkWrite o) (step_writes m (enter k y))
      enter_writes_lem l = (at_prev before i, (at_prev i i, (at_next i before, (at_head l (fit.head y i), (at_mark l fit.set, tt)))))

      pub enter_shown : Shown o (apply m (step_writes m (enter k y)))
      enter_shown = record {
        heads = upd_each (λ _. o.H) (m Head) k _ (fit.head y i) (λ j _. shown.heads j);
        marks = upd_each (λ _. o.B) (m Mark) k _ fit.set (λ j _. shown.marks j);
      }

      headed_still : (j : ℕ) → Headed o.F m j → Headed o.F (apply m (step_writes m (enter k y))) j
      headed_still j q = ⊎_elim
          (λ (e : j ≡ k). inr (subst o.F (sym (upd_same (m Head) k _ j e)) i))
          (λ (a : j ≡ k → ⊥). ⊎_elim
          (λ (z : m Mark j ≡ 0). inl (upd_other (m Mark) k _ j a ∙ z))
          (λ (z : o.F (m Head j)). inr (subst o.F (sym (upd_other (m Head) k _ j a)) z)) q)
          (same? j k)

      pub enter_ready : (l : List Step) → Ready o m l → Ready o (apply m (step_writes m (enter k y))) l
      enter_ready [] r = tt
      enter_ready (leave j u ∷ l) r = (
        (
          r.0.0,
          upd_keeps o.F (m Next) y _ u before r.0.1,
          upd_keeps o.F _ y y u i (upd_keeps o.F (m Prev) (next_of y (m Mark k) (m Head k)) y u i r.0.2),
        ),
        enter_ready l r.1,
      )
      enter_ready (enter j u ∷ l) r = ((r.0.0, r.0.1, headed_still j r.0.2), enter_ready l r.1)

  -- ---- all of them

  pub record Done (m : Memory) (l : List Step) : Type 0 where
    pub writes : Each (LinkWrite o) (steps_writes m l)
    pub shown : Shown o (apply m (steps_writes m l))

  pub steps_done : (m : Memory) (l : List Step) → Shown o m → Ready o m l → Done m l
  steps_done m [] s r = record { writes = tt; shown = s }
  steps_done m (leave k y ∷ l) s r =
      let w = step_writes m (leave k y) in
      let d = steps_done (apply m w) l (leave_shown m s k y r.0.1 r.0.2) (leave_ready m s k y r.0.1 r.0.2 l r.1) in
      record {
        writes = each_append (LinkWrite o) w (steps_writes (apply m w) l) (leave_writes_lem m s k y r.0.1 r.0.2 r.0.0) d.writes;
        shown = subst (Shown o) (sym (apply_append m w (steps_writes (apply m w) l))) d.shown;
      }
  steps_done m (enter k y ∷ l) s r =
      let w = step_writes m (enter k y) in
      let d = steps_done (apply m w) l (enter_shown m s k y r.0.1 r.0.2) (enter_ready m s k y r.0.1 r.0.2 l r.1) in
      record {
        writes = each_append (LinkWrite o) w (steps_writes (apply m w) l) (enter_writes_lem m s k y r.0.1 r.0.2 r.0.0) d.writes;
        shown = subst (Shown o) (sym (apply_append m w (steps_writes (apply m w) l))) d.shown;
      }

-- ---- some steps, and then others

pub ready_append : (o : Bounds) (m : Memory) (a b : List Step) → Ready o m a → Ready o m b → Ready o m (a ++ b)
ready_append o m [] b r q = q
ready_append o m (leave k y ∷ a) b r q = (r.0, ready_append o m a b r.1 q)
ready_append o m (enter k y ∷ a) b r q = (r.0, ready_append o m a b r.1 q)
