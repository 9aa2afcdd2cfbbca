-- What follows from specs/Steps.antt.
use Rattle.std.specs.Prelude.{suc, ◌+◌, ◌*◌, ◌≡◌, refl, List, [], ◌∷◌, ◌++◌, length}
use Rattle.std.proofs.Common.{ap, sym, ◌∙◌, subst, append_assoc, arith}
use Rattle.definition.specs.Lists.{Lists}
use Rattle.script.specs.Memory.{Memory, Next, Prev, Mark, Write, apply}
use Rattle.script.proofs.Memory.{apply_append}
use Rattle.script.specs.Script.{over, AtMost, few_bind, Gives}
use Rattle.script.proofs.Script.{over_run, over_few, gives_bind, gives_get, gives_done}
use Rattle.chains.specs.Links.{Head}
use Rattle.chains.specs.Steps.{Step, leave, enter, step_writes, steps_writes, step_lists, steps_lists, step_script, steps_script}

-- ---- as scripts

-- a step reads four words at the most
step_few : (s : Step) → AtMost 0 (step_script s) 4
step_few (leave k y) = λ x p h b. tt
step_few (enter k y) = λ b h. tt

pub steps_few : (l : List Step) → AtMost 0 (steps_script l) (4 * length l)
unfolding steps_script
steps_few [] = tt
steps_few (s ∷ l) =
    let e : 4 + (4 * length l + 0) ≡ 4 * suc (length l) = omega arith in
    subst (AtMost 0 (steps_script (s ∷ l))) e (few_bind 0 (step_script s) _ 4 (4 * length l + 0) (step_few s) λ w.
    few_bind 0 (over w (steps_script l)) _ (4 * length l) 0 (over_few 0 w (steps_script l) (4 * length l) (steps_few l)) λ v. tt)

-- the script gives what the steps write
step_gives : (m : Memory) (s : Step) → Gives m (step_script s) (step_writes m s)
step_gives m (leave k y) = gives_get m Next y _ refl (gives_get m Prev y _ refl (gives_get m Head k _ refl (gives_get m Mark k _ refl (gives_done m _))))
step_gives m (enter k y) = gives_get m Mark k _ refl (gives_get m Head k _ refl (gives_done m _))

pub steps_give : (m : Memory) (l : List Step) → Gives m (steps_script l) (steps_writes m l)
unfolding steps_script
steps_give m [] = gives_done m []
steps_give m (s ∷ l) =
    let w = step_writes m s in
    gives_bind m (step_script s) _ (step_gives m s)
    (gives_bind m (over w (steps_script l)) _ (over_run m w (steps_script l) (4 * length l) (steps_few l) ∙ steps_give (apply m w) l) (gives_done m _))

-- ---- some steps, and then others

pub steps_append : (m : Memory) (a b : List Step) → steps_writes m (a ++ b) ≡ steps_writes m a ++ steps_writes (apply m (steps_writes m a)) b
steps_append m [] b = refl
steps_append m (s ∷ a) b =
    let w = step_writes m s in
    let n = apply m w in
    ap (λ (v : List Write). w ++ v) (steps_append n a b)
    ∙ sym (append_assoc w (steps_writes n a) _)
    ∙ ap (λ (d : Memory). (w ++ steps_writes n a) ++ steps_writes d b) (sym (apply_append m w (steps_writes n a)))

pub lists_append : (f : Lists) (a b : List Step) → steps_lists f (a ++ b) ≡ steps_lists (steps_lists f a) b
lists_append f [] b = refl
lists_append f (s ∷ a) b = lists_append (step_lists f s) a b
