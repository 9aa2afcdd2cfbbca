-- What follows from specs/Carried.antt.
use Rattle.std.specs.Prelude.{ℕ, ◌≡◌, List, [], ◌∷◌, ◌++◌}
use Rattle.std.proofs.Common.{arith, subst, ⊎_elim}
use Rattle.script.specs.Memory.{Memory, Next, Prev, Mark, Table, Write, apply}
use Rattle.tags.specs.Tag.{Tag}
use Rattle.tags.specs.Each.{Each}
use Rattle.tags.proofs.Each.{each_append, each_weaker}
use Rattle.chains.specs.Links.{Head}
use Rattle.chains.specs.Steps.{Step, steps_writes}
use Rattle.chains.proofs.Steps.{steps_append}
use Rattle.chains.specs.Closed.{LinkWrite, at_next, at_prev, at_head, at_mark, Ready}
use Rattle.chains.proofs.Closed.{steps_done}
use Rattle.plans.specs.Deeds.{Deed, guard_writes, early_writes, plan_of}
use Rattle.armour.specs.Turns.{Record, Every}
use Rattle.armour.proofs.Turns.{each_right}
use Rattle.armour.specs.Carried.{Spares, Carried, Beyond, beyond_bounds}

link_spares : (b u : ℕ) (w : Write) → LinkWrite (beyond_bounds b u) w → Spares b u w
link_spares b u w (at_next h v) = λ _. h
link_spares b u w (at_prev h v) = λ _. h
link_spares b u w (at_head h v) = λ e. absurd (⊎_elim (λ (q : Head ≡ Next). omega arith) (λ (q : Head ≡ Prev). omega arith) e)
link_spares b u w (at_mark h v) = λ e. absurd (⊎_elim (λ (q : Mark ≡ Next). omega arith) (λ (q : Mark ≡ Prev). omega arith) e)

guard_spares : (b u : ℕ) (l : List ℕ) → Every (Beyond b u) l → Each (Spares b u) (guard_writes l)
guard_spares b u [] h = tt
guard_spares b u (x ∷ l) h = ((λ _. h.0), ((λ _. h.0), guard_spares b u l h.1))

record_spares : (b u : ℕ) (w : Write) → Record w → Spares b u w
record_spares b u w r = λ e. absurd (⊎_elim
    (λ (a : w.field ≡ Tag). ⊎_elim (λ (q : w.field ≡ Next). omega arith) (λ (q : w.field ≡ Prev). omega arith) e)
    (λ (a : w.field ≡ Table). ⊎_elim (λ (q : w.field ≡ Next). omega arith) (λ (q : w.field ≡ Prev). omega arith) e) r)

steps_spare : (b u : ℕ) (m : Memory) (l : List Step) → Ready (beyond_bounds b u) m l → Each (Spares b u) (steps_writes m l)
steps_spare b u m l r = each_weaker (LinkWrite (beyond_bounds b u)) (Spares b u) (link_spares b u) (steps_writes m l)
    (steps_done (beyond_bounds b u) (record { head = λ v h. tt; clear = tt; set = tt }) m l (record { heads = λ k. tt; marks = λ k. tt }) r).writes

pub carried : (m : Memory) (q u : ℕ) (t : Deed) → t.moved ≡ u → Ready (beyond_bounds q u) m t.early → Ready (beyond_bounds t.answer u) m (t.early ++ t.late)
    → Every (Beyond t.answer u) t.guards → Each Record t.records → Carried q u (plan_of m t)
carried m q u t e old new guards records =
    let w = early_writes m t in
    let v = steps_writes (apply m w) t.late in
    let b = t.answer in
    record {
      moved = e;
      old_stays = steps_spare q u m t.early old;
      new_stays = each_append (Spares b u) v (guard_writes t.guards ++ t.records)
          (each_right (Spares b u) w v (subst (Each (Spares b u)) (steps_append m t.early t.late) (steps_spare b u m (t.early ++ t.late) new)))
          (each_append (Spares b u) (guard_writes t.guards) t.records (guard_spares b u t.guards guards) (each_weaker Record (Spares b u) (record_spares b u) t.records records));
    }
