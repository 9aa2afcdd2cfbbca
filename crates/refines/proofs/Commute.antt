-- What follows from specs/Commute.antt.
use Rattle.std.specs.Prelude.{ℕ, ◌≡◌, refl, List, [], ◌∷◌}
use Rattle.std.proofs.Common.{ap, sym, ◌∙◌, ⊎_elim}
use Rattle.std.proofs.Math.Path.{fun_ext}
use Rattle.choice.specs.Choice.{eq_yes, eq_no, eq_case, upd_same, upd_other, same?}
use Rattle.class.specs.Class.{list_of}
use Rattle.definition.specs.Lists.{Lists, remove, push, drop}
use Rattle.invariants.specs.Members.{Mem, Apiece, mem_drop, mem_dropped, apiece_drop}
use Rattle.chains.specs.Steps.{Step, leave, enter, step_lists, steps_lists}
use Rattle.plans.specs.Deallocate.{leave_steps}
use Rattle.refines.specs.Commute.{block_of, Absent}

-- ---- one list

remove_one : (x y : ℕ) (l : List ℕ) → (y ≡ x → ⊥) → remove x (y ∷ l) ≡ y ∷ remove x l
unfolding remove
remove_one x y l n = eq_no y x l (y ∷ remove x l) n

remove_first : (x y : ℕ) (l : List ℕ) → y ≡ x → remove x (y ∷ l) ≡ l
unfolding remove
remove_first x y l e = eq_yes y x l (y ∷ remove x l) e

remove_two : (x y : ℕ) (l : List ℕ) → (x ≡ y → ⊥) → remove y (remove x l) ≡ remove x (remove y l)
unfolding remove
remove_two x y [] n = refl
remove_two x y (z ∷ l) n = ⊎_elim
    (λ (e : z ≡ x). ap (remove y) (remove_first x z l e) ∙ sym (ap (remove x) (remove_one y z l (λ q. n (sym e ∙ q))) ∙ remove_first x z (remove y l) e))
    (λ (e : z ≡ x → ⊥). ⊎_elim
    (λ (q : z ≡ y). ap (remove y) (remove_one x z l e) ∙ remove_first y z (remove x l) q ∙ sym (ap (remove x) (remove_first y z l q)))
    (λ (q : z ≡ y → ⊥). ap (remove y) (remove_one x z l e) ∙ remove_one y z (remove x l) q ∙ ap (λ (t : List ℕ). z ∷ t) (remove_two x y l n)
    ∙ sym (ap (remove x) (remove_one y z l q) ∙ remove_one x z (remove y l) e))
    (same? z y))
    (same? z x)

-- ---- all lists

drop_here : (f : Lists) (k x i : ℕ) → i ≡ k → drop k x f i ≡ remove x (f i)
drop_here f k x i e = upd_same f k (remove x (f k)) i e ∙ ap (λ (j : ℕ). remove x (f j)) (sym e)

drop_other : (f : Lists) (k x i : ℕ) → (i ≡ k → ⊥) → drop k x f i ≡ f i
drop_other f k x i n = upd_other f k (remove x (f k)) i n

push_here : (f : Lists) (k x i : ℕ) → i ≡ k → push k x f i ≡ x ∷ f i
push_here f k x i e = upd_same f k (x ∷ f k) i e ∙ ap (λ (j : ℕ). x ∷ f j) (sym e)

push_other : (f : Lists) (k x i : ℕ) → (i ≡ k → ⊥) → push k x f i ≡ f i
push_other f k x i n = upd_other f k (x ∷ f k) i n

drops_commute : (f : Lists) (j y k x : ℕ) → (x ≡ y → ⊥) → drop j y (drop k x f) ≡ drop k x (drop j y f)
drops_commute f j y k x n = fun_ext (λ i. ⊎_elim
    (λ (a : i ≡ j). ⊎_elim
    (λ (b : i ≡ k). drop_here (drop k x f) j y i a ∙ ap (remove y) (drop_here f k x i b) ∙ remove_two x y (f i) n ∙ sym (drop_here (drop j y f) k x i b ∙ ap (remove x) (drop_here f j y i a)))
    (λ (b : i ≡ k → ⊥). drop_here (drop k x f) j y i a ∙ ap (remove y) (drop_other f k x i b) ∙ sym (drop_other (drop j y f) k x i b ∙ drop_here f j y i a))
    (same? i k))
    (λ (a : i ≡ j → ⊥). drop_other (drop k x f) j y i a ∙ ⊎_elim
    (λ (b : i ≡ k). drop_here f k x i b ∙ sym (drop_here (drop j y f) k x i b ∙ ap (remove x) (drop_other f j y i a)))
    (λ (b : i ≡ k → ⊥). drop_other f k x i b ∙ sym (drop_other (drop j y f) k x i b ∙ drop_other f j y i a))
    (same? i k))
    (same? i j))

drop_push : (f : Lists) (j y k x : ℕ) → (x ≡ y → ⊥) → drop j y (push k x f) ≡ push k x (drop j y f)
drop_push f j y k x n = fun_ext (λ i. ⊎_elim
    (λ (a : i ≡ j). ⊎_elim
    (λ (b : i ≡ k). drop_here (push k x f) j y i a ∙ ap (remove y) (push_here f k x i b) ∙ remove_one y x (f i) n ∙ sym (push_here (drop j y f) k x i b ∙ ap (λ (t : List ℕ). x ∷ t) (drop_here f j y i a)))
    (λ (b : i ≡ k → ⊥). drop_here (push k x f) j y i a ∙ ap (remove y) (push_other f k x i b) ∙ sym (push_other (drop j y f) k x i b ∙ drop_here f j y i a))
    (same? i k))
    (λ (a : i ≡ j → ⊥). drop_other (push k x f) j y i a ∙ ⊎_elim
    (λ (b : i ≡ k). push_here f k x i b ∙ sym (push_here (drop j y f) k x i b ∙ ap (λ (t : List ℕ). x ∷ t) (drop_other f j y i a)))
    (λ (b : i ≡ k → ⊥). push_other f k x i b ∙ sym (push_other (drop j y f) k x i b ∙ drop_other f j y i a))
    (same? i k))
    (same? i j))

-- ---- steps

one_through : (f : Lists) (k y : ℕ) (s : Step) → (block_of s ≡ y → ⊥) → step_lists (drop k y f) s ≡ drop k y (step_lists f s)
one_through f k y (leave j x) n = sym (drops_commute f k y j x n)
one_through f k y (enter j x) n = sym (drop_push f k y j x n)

pub leave_through : (f : Lists) (k y : ℕ) (l : List Step) → Absent y l → steps_lists (drop k y f) l ≡ drop k y (steps_lists f l)
leave_through f k y [] h = refl
leave_through f k y (s ∷ l) h = ap (λ (g : Lists). steps_lists g l) (one_through f k y s h.0) ∙ leave_through (step_lists f s) k y l h.1

-- a neighbour, if there is one
pub skip_through : (f : Lists) (t y : ℕ) (l : List Step) → Absent y l → steps_lists (steps_lists f (leave_steps t y)) l ≡ steps_lists (steps_lists f l) (leave_steps t y)
skip_through f t y l h = eq_case (λ (w : List Step). steps_lists (steps_lists f w) l ≡ steps_lists (steps_lists f l) w) t 0 _ _ (λ _. refl) (λ _. leave_through f (list_of t) y l h)

-- ---- members

pub skip_keeps : (f : Lists) → Apiece f → (t y k u : ℕ) → (u ≡ y → ⊥) → Mem u (f k) → Mem u (steps_lists f (leave_steps t y) k)
skip_keeps f o t y k u n i = eq_case (λ (w : List Step). Mem u (steps_lists f w k)) t 0 _ _ (λ _. i) (λ _. mem_dropped f o (list_of t) y k u n i)

pub skip_fewer : (f : Lists) → Apiece f → (t y k u : ℕ) → Mem u (steps_lists f (leave_steps t y) k) → Mem u (f k)
skip_fewer f o t y k u = eq_case (λ (w : List Step). Mem u (steps_lists f w k) → Mem u (f k)) t 0 _ _ (λ _ i. i) (λ _ i. mem_drop f o (list_of t) y k u i)

pub skip_apiece : (f : Lists) → Apiece f → (t y : ℕ) → Apiece (steps_lists f (leave_steps t y))
skip_apiece f o t y = eq_case (λ (w : List Step). Apiece (steps_lists f w)) t 0 _ _ (λ _. o) (λ _. apiece_drop f o (list_of t) y)
