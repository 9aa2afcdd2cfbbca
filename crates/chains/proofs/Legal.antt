-- What follows from specs/Legal.antt.
use Rattle.std.specs.Prelude.{ℕ, ◌≡◌, refl, List, [], ◌∷◌, ◌++◌}
use Rattle.std.proofs.Common.{sym, subst}
use Rattle.definition.specs.Lists.{Lists, push, drop}
use Rattle.invariants.specs.Members.{Mem, apiece_drop, apiece_push}
use Rattle.script.specs.Memory.{Memory, Next, Prev, Mark, apply, Untouched}
use Rattle.script.proofs.Memory.{apply_append, untouched_append}
use Rattle.chains.specs.Links.{Head}
use Rattle.chains.specs.Steps.{Step, leave, enter, step_writes, steps_writes, steps_lists}
use Rattle.chains.specs.Chain.{Chain}
use Rattle.chains.proofs.Chain.{chain_keep}
use Rattle.chains.proofs.Strung.{strung_leave, strung_enter}
use Rattle.chains.specs.Legal.{Legal, Kept, Else}

pub steps_strung : (m : Memory) (f : Lists) (l : List Step) → Kept m f → Legal f l → Kept (apply m (steps_writes m l)) (steps_lists f l)
steps_strung m f [] o g = o
steps_strung m f (leave k y ∷ l) o g =
    let w = step_writes m (leave k y) in
    subst (λ (d : Memory). Kept d (steps_lists (drop k y f) l)) (sym (apply_append m w (steps_writes (apply m w) l)))
    (steps_strung (apply m w) (drop k y f) l
    (record { apiece = apiece_drop f o.apiece k y; strung = strung_leave m f o.apiece o.strung k y _ _ _ _ g.0 refl refl refl refl }) g.1)
steps_strung m f (enter k y ∷ l) o g =
    let w = step_writes m (enter k y) in
    subst (λ (d : Memory). Kept d (steps_lists (push k y f) l)) (sym (apply_append m w (steps_writes (apply m w) l)))
    (steps_strung (apply m w) (push k y f) l
    (record { apiece = apiece_push f o.apiece k y g.0; strung = strung_enter m f o.apiece o.strung k y _ g.0 refl }) g.1)

-- some steps, and then others
pub legal_append : (f : Lists) (a b : List Step) → Legal f a → Legal (steps_lists f a) b → Legal f (a ++ b)
legal_append f [] b g h = h
legal_append f (leave k y ∷ a) b g h = (g.0, legal_append (drop k y f) a b g.1 h)
legal_append f (enter k y ∷ a) b g h = (g.0, legal_append (push k y f) a b g.1 h)

-- ---- what steps leave alone

pub steps_rest : (i : ℕ) → Else i → (m : Memory) (l : List Step) → Untouched i (steps_writes m l)
steps_rest i e m [] = tt
steps_rest i e m (leave k y ∷ l) = untouched_append i (step_writes m (leave k y)) (steps_writes (apply m (step_writes m (leave k y))) l) (e.next, (e.prev, (e.head, (e.mark, tt)))) (steps_rest i e (apply m (step_writes m (leave k y))) l)
steps_rest i e m (enter k y ∷ l) = untouched_append i (step_writes m (enter k y)) (steps_writes (apply m (step_writes m (enter k y))) l) (e.prev, (e.prev, (e.next, (e.head, (e.mark, tt))))) (steps_rest i e (apply m (step_writes m (enter k y))) l)

-- ---- lists that are the same stay strung, and so they do where only words of blocks in no list change

pub kept_same : (m : Memory) (f g : Lists) → ((k : ℕ) → f k ≡ g k) → Kept m f → Kept m g
kept_same m f g e o = record {
  apiece = record {
    once = λ k. rw (sym (e k)) (o.apiece.once k);
    one = λ j k y a b. o.apiece.one j k y (rw (e j) a) (rw (e k) b);
  };
  strung = λ k. subst (Chain m k) (e k) (o.strung k);
}

pub kept_apart : (m d : Memory) (f : Lists) → ((k : ℕ) → d Mark k ≡ m Mark k) → ((k : ℕ) → d Head k ≡ m Head k)
    → ((k y : ℕ) → Mem y (f k) → (d Next y ≡ m Next y) × (d Prev y ≡ m Prev y)) → Kept m f → Kept d f
kept_apart m d f b h e o = record {
  apiece = o.apiece;
  strung = λ k. chain_keep m d k (f k) (b k) (h k) (λ u i. (e k u i).0) (λ u i. (e k u i).1) (o.strung k);
}
