-- What follows from specs/Turns.antt.
use Rattle.std.specs.Prelude.{ℕ, ◌≡◌, refl, List, [], ◌∷◌, ◌++◌, ◌⊎◌}
use Rattle.std.proofs.Common.{arith, ap, sym, ◌∙◌, subst, inl, inr, ⊎_elim}
use Rattle.definition.specs.Blocks.{Block}
use Rattle.script.specs.Memory.{Memory, Next, Prev, Mark, Table, Write, apply, Untouched}
use Rattle.script.proofs.Memory.{apply_append, apply_alike, apply_untouched}
use Rattle.sound.proofs.Swaps.{given_same}
use Rattle.tags.specs.Tag.{Tag, Tagged}
use Rattle.tags.specs.Each.{Each}
use Rattle.tags.proofs.Each.{each_append, each_weaker}
use Rattle.chains.specs.Links.{Head}
use Rattle.chains.specs.Steps.{steps_writes}
use Rattle.chains.proofs.Steps.{steps_append}
use Rattle.chains.specs.Legal.{Else}
use Rattle.chains.proofs.Legal.{steps_rest}
use Rattle.chains.specs.Closed.{LinkWrite, at_next, at_prev, at_head, at_mark}
use Rattle.chains.proofs.Closed.{steps_done}
use Rattle.plans.specs.Deeds.{Deed, guard_writes, early_writes, late_writes, plan_of, after}
use Rattle.armour.specs.Row.{Row, Free}
use Rattle.armour.specs.Turns.{link_bounds, Record, Every, Turns, Proper, Armoured}

-- ---- tags and regions decide

pub row_same : (n c : ℕ) (m u : Memory) (xs : List Block) → u Tag ≡ m Tag → u Table ≡ m Table → Row n c m xs → Row n c u xs
row_same n c m u xs e f o = record {
  order = o.order;
  short = o.short;
  whole = o.whole;
  tags = subst (λ (t : ℕ → ℕ). Tagged t 0 xs) (sym e) o.tags;
  given = given_same m u xs xs o.given f refl (λ y h. h) (λ y h. h);
}

-- ---- what a plan leaves alone

-- tags, and the table of regions
record_field : (i : ℕ) → (Tag ≡ i) ⊎ (Table ≡ i) → Else i
record_field i (inl e) = record { next = omega arith; prev = omega arith; head = omega arith; mark = omega arith }
record_field i (inr e) = record { next = omega arith; prev = omega arith; head = omega arith; mark = omega arith }

pub guards_rest : (i : ℕ) → Else i → (l : List ℕ) → Untouched i (guard_writes l)
guards_rest i e [] = tt
guards_rest i e (x ∷ l) = (e.next, (e.prev, guards_rest i e l))

pub records_rest : (i : ℕ) → (Tag ≡ i → ⊥) → (Table ≡ i → ⊥) → (l : List Write) → Each Record l → Untouched i l
records_rest i a b [] h = tt
records_rest i a b (w ∷ l) h = (⊎_elim (λ (e : w.field ≡ Tag). λ q. a (sym e ∙ q)) (λ (e : w.field ≡ Table). λ q. b (sym e ∙ q)) h.0, records_rest i a b l h.1)

module _ (m : Memory) (t : Deed) where
  -- the memory when links and guards are written
  abbrev pub stepped : Memory
  stepped = apply (apply m (early_writes m t)) (steps_writes (apply m (early_writes m t)) t.late)

  abbrev pub linked : Memory
  linked = apply (apply (apply m (early_writes m t)) (steps_writes (apply m (early_writes m t)) t.late)) (guard_writes t.guards)

  pub after_is : after m (plan_of m t) ≡ apply linked t.records
  after_is =
      apply_append m (early_writes m t) (late_writes m t)
      ∙ apply_append (apply m (early_writes m t)) (steps_writes (apply m (early_writes m t)) t.late) (guard_writes t.guards ++ t.records)
      ∙ apply_append stepped (guard_writes t.guards) t.records

  linked_rest : (i : ℕ) → Else i → linked i ≡ m i
  linked_rest i e =
      apply_untouched stepped (guard_writes t.guards) i (guards_rest i e t.guards)
      ∙ apply_untouched (apply m (early_writes m t)) (steps_writes (apply m (early_writes m t)) t.late) i (steps_rest i e (apply m (early_writes m t)) t.late)
      ∙ apply_untouched m (early_writes m t) i (steps_rest i e m t.early)

  -- tags and regions are as the records alone make them
  pub after_records : (i : ℕ) → (Tag ≡ i) ⊎ (Table ≡ i) → after m (plan_of m t) i ≡ apply m t.records i
  after_records i e = ap (λ (d : Memory). d i) after_is ∙ apply_alike linked m t.records i (linked_rest i (record_field i e))

-- ---- the writes

link_proper : (c : ℕ) (xs ys : List Block) (w : Write) → LinkWrite (link_bounds c xs ys) w → Proper xs ys w
link_proper c xs ys w (at_next h v) = λ _. h
link_proper c xs ys w (at_prev h v) = λ _. h
link_proper c xs ys w (at_head h v) = λ e. absurd (⊎_elim (λ (q : Head ≡ Next). omega arith) (λ (q : Head ≡ Prev). omega arith) e)
link_proper c xs ys w (at_mark h v) = λ e. absurd (⊎_elim (λ (q : Mark ≡ Next). omega arith) (λ (q : Mark ≡ Prev). omega arith) e)

guard_proper : (xs ys : List Block) (l : List ℕ) → Every (Free xs) l → Each (Proper xs ys) (guard_writes l)
guard_proper xs ys [] h = tt
guard_proper xs ys (x ∷ l) h = ((λ _. inl h.0), ((λ _. inl h.0), guard_proper xs ys l h.1))

record_proper : (xs ys : List Block) (w : Write) → Record w → Proper xs ys w
record_proper xs ys w r = λ e. absurd (⊎_elim
    (λ (a : w.field ≡ Tag). ⊎_elim (λ (q : w.field ≡ Next). omega arith) (λ (q : w.field ≡ Prev). omega arith) e)
    (λ (a : w.field ≡ Table). ⊎_elim (λ (q : w.field ≡ Next). omega arith) (λ (q : w.field ≡ Prev). omega arith) e) r)

pub each_left : (P : Write → Type 0) (a b : List Write) → Each P (a ++ b) → Each P a
each_left P [] b h = tt
each_left P (w ∷ a) b h = (h.0, each_left P a b h.1)

pub each_right : (P : Write → Type 0) (a b : List Write) → Each P (a ++ b) → Each P b
each_right P [] b h = h
each_right P (w ∷ a) b h = each_right P a b h.1

module _ (n c : ℕ) (m : Memory) (xs : List Block) (t : Deed) (ys : List Block) (o : Turns n c m xs t ys) where
  pub steps_proper : Each (Proper xs ys) (early_writes m t ++ steps_writes (apply m (early_writes m t)) t.late)
  steps_proper = subst (Each (Proper xs ys)) (steps_append m t.early t.late)
      (each_weaker (LinkWrite (link_bounds c xs ys)) (Proper xs ys) (link_proper c xs ys) (steps_writes m (t.early ++ t.late))
      (steps_done (link_bounds c xs ys) (record { head = λ v h. tt; clear = tt; set = tt }) m (t.early ++ t.late) (record { heads = λ k. tt; marks = λ k. tt }) o.ready).writes)

  pub turns_armoured : Armoured n c m xs (plan_of m t) ys
  turns_armoured = record {
    row = row_same n c (apply m t.records) (after m (plan_of m t)) ys (after_records m t Tag (inl refl)) (after_records m t Table (inr refl)) o.row;
    proper = each_append (Proper xs ys) (early_writes m t) (late_writes m t)
        (each_left (Proper xs ys) (early_writes m t) _ steps_proper)
        (each_append (Proper xs ys) (steps_writes (apply m (early_writes m t)) t.late) (guard_writes t.guards ++ t.records)
        (each_right (Proper xs ys) (early_writes m t) _ steps_proper)
        (each_append (Proper xs ys) (guard_writes t.guards) t.records (guard_proper xs ys t.guards o.guards)
        (each_weaker Record (Proper xs ys) (record_proper xs ys) t.records o.records)));
  }
