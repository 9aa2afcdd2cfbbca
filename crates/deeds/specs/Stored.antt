-- The plan of a deed, stored part by part: the early steps, the late ones, the guards, the records. Each part is made from the
-- slices as the part before left them.
use Rattle.std.specs.Prelude.{◌≡◌, List, [], ◌∷◌, ◌++◌}
use Rattle.std.proofs.Common.{ap, sym, ◌∙◌}
use Rattle.script.specs.Memory.{Memory, Write, apply}
use Rattle.chains.specs.Steps.{Step, step_writes, steps_writes}
use Rattle.chains.proofs.Steps.{steps_append}
use Rattle.lent.specs.Slices.{Slices, memory_of, stores, AllValid}
use Rattle.lent.proofs.Kept.{stores_append}
use Rattle.lent.proofs.Stored.{stores_memory}
use Rattle.plans.specs.Deeds.{Deed, guard_writes, early_writes, late_writes, plan_of, writes}

-- the slices after some steps
abbrev pub stepped : Slices → List Step → Slices
stepped S l = stores S (steps_writes (memory_of S) l)

-- the slices after a deed that moves no payload
abbrev pub done : Slices → Deed → Slices
done S t = stores S (writes (plan_of (memory_of S) t))

-- one step, and then the others
pub steps_stored : (S : Slices) (s : Step) (l : List Step) → AllValid S (step_writes (memory_of S) s) → stepped S (s ∷ l) ≡ stepped (stores S (step_writes (memory_of S) s)) l
steps_stored S s l v =
    let w = step_writes (memory_of S) s in
    stores_append S w (steps_writes (apply (memory_of S) w) l) ∙ ap (λ (m : Memory). stores (stores S w) (steps_writes m l)) (sym (stores_memory S w v))

-- some steps, and then others
pub more_stored : (S : Slices) (a b : List Step) → AllValid S (steps_writes (memory_of S) a) → stepped S (a ++ b) ≡ stepped (stepped S a) b
more_stored S a b v =
    let w = steps_writes (memory_of S) a in
    ap (stores S) (steps_append (memory_of S) a b) ∙ stores_append S w (steps_writes (apply (memory_of S) w) b)
    ∙ ap (λ (m : Memory). stores (stores S w) (steps_writes m b)) (sym (stores_memory S w v))

-- what comes after the early steps
abbrev pub lately : Slices → Deed → Slices
lately S t = stores (stores (stepped S t.late) (guard_writes t.guards)) t.records

pub late_stored : (S : Slices) (m : Memory) (t : Deed) → memory_of S ≡ apply m (early_writes m t) → stores S (late_writes m t) ≡ lately S t
late_stored S m t e =
    let v = steps_writes (apply m (early_writes m t)) t.late in
    stores_append S v (guard_writes t.guards ++ t.records) ∙ stores_append (stores S v) (guard_writes t.guards) t.records
    ∙ ap (λ (d : Memory). stores (stores (stores S (steps_writes d t.late)) (guard_writes t.guards)) t.records) (sym e)

-- the whole
pub deed_stored : (S : Slices) (t : Deed) → AllValid S (early_writes (memory_of S) t) → done S t ≡ lately (stepped S t.early) t
deed_stored S t v =
    let m = memory_of S in
    stores_append S (early_writes m t) (late_writes m t) ∙ late_stored (stepped S t.early) m t (stores_memory S (early_writes m t) v)

-- parts of what can be stored
pub valid_left : (S : Slices) (a b : List Write) → AllValid S (a ++ b) → AllValid S a
valid_left S [] b h = tt
valid_left S (w ∷ a) b h = (h.0, valid_left S a b h.1)

pub valid_right : (S : Slices) (a b : List Write) → AllValid S (a ++ b) → AllValid S b
valid_right S [] b h = h
valid_right S (w ∷ a) b h = valid_right S a b h.1
