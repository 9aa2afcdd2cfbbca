-- What follows from specs/Runs.antt.
use Rattle.std.specs.Prelude.{ℕ, ◌+◌, ◌≤◌, ◌<◌, ◌≡◌, refl, List, [], ◌∷◌}
use Rattle.std.proofs.Common.{arith, ap, sym, ◌∙◌, subst, ⊎_elim}
use Rattle.choice.specs.Choice.{if_eq, eq_yes, eq_no, same?}
use Rattle.definition.specs.Blocks.{used}
use Rattle.definition.specs.Calls.{Heap, Answer, refused, granted}
use Rattle.invariants.specs.Order.{BlockAt}
use Rattle.script.specs.Memory.{Memory, Next, Table}
use Rattle.script.specs.Script.{Result, ok, no, run}
use Rattle.chains.proofs.Legal.{kept_apart}
use Rattle.plans.specs.Deeds.{Plan, after}
use Rattle.plans.specs.Calls.{Call, Allocate, Deallocate, Reallocate, Insert, Append, script_of, Fair}
use Rattle.armour.specs.Row.{Sound}
use Rattle.armour.proofs.Turns.{row_same}
use Rattle.refines.specs.Sounds.{number, Meets}
use Rattle.refines.specs.Calls.{answer_of, NeedsRoom}
use Rattle.refines.proofs.Calls.{call_meets, full_refused}
use Rattle.refines.proofs.Tables.{allocate_table, deallocate_table, reallocate_table, region_table}
use Rattle.refines.specs.Runs.{Filled, Reply, yes, not, reply, written, Model, said, asks, left, answers, next, Stands, Agrees, Turn}

-- ---- payloads are written

pub filled_sound : (n c : ℕ) (m d : Memory) (h : Heap) → Filled h m d → Sound n c m h → Sound n c d h
filled_sound n c m d h v o = record {
  row = row_same n c m d h.blocks v.tags v.regions o.row;
  exact = o.exact;
  strung = (kept_apart m d h.lists (λ k. ap (λ (f : ℕ → ℕ). f k) v.marks) (λ k. ap (λ (f : ℕ → ℕ). f k) v.heads)
      (λ k y i. let t = o.exact.there k y i in v.frees y t.0 t.1) (record { apiece = o.exact.apiece; strung = o.strung })).strung;
  guarded = λ x s e b. let w = v.useds x s e b in let g = o.guarded x s e b in (w.0 ∙ g.0, w.1 ∙ g.1);
}

-- ---- one call

table_after : (n c most : ℕ) (m : Memory) (k : Call) (t : Plan) → run m (script_of n c most k) ≡ ok t → after m t Table 0 ≡ asks k + m Table 0
table_after n c most m (Allocate p a) t g = ap (λ (f : ℕ → ℕ). f 0) (allocate_table n c p a m t g) ∙ omega arith
table_after n c most m (Deallocate q) t g = ap (λ (f : ℕ → ℕ). f 0) (deallocate_table n c q m t g) ∙ omega arith
table_after n c most m (Reallocate q p a) t g = ap (λ (f : ℕ → ℕ). f 0) (reallocate_table n c q p a m t g) ∙ omega arith
table_after n c most m (Insert x len) t g = region_table most 0 n c x len m t g ∙ omega arith
table_after n c most m (Append x len) t g = region_table most 1 n c x len m t g ∙ omega arith

-- where there is room
meets_agrees : (n c most : ℕ) (m : Memory) (k : Call) (s : Model) (w : Answer) → Stands n c most m s → (1 ≤ asks k → s.regions < most) → Meets n c m (script_of n c most k) w
    → Agrees n c most m (run m (script_of n c most k)) (said w) (left s (asks k) w)
meets_agrees n c most m k s (refused w) o room h = subst (λ (r : Result Plan). Agrees n c most m r (not (number w)) s) (sym h) (record { heard = refl; stands = o })
meets_agrees n c most m k s (granted v g) o room h = subst (λ (r : Result Plan). Agrees n c most m r (yes v) (record { heap = g; regions = asks k + s.regions })) (sym h.gives) (record {
  heard = ap yes h.answer;
  stands = record { sound = h.sound; count = table_after n c most m k h.plan h.gives ∙ ap (λ (j : ℕ). asks k + j) o.count; few = fits k room };
})
  where
    fits : (k : Call) → (1 ≤ asks k → s.regions < most) → asks k + s.regions ≤ most
    fits (Allocate p a) room = omega (arith, o.few)
    fits (Deallocate q) room = omega (arith, o.few)
    fits (Reallocate q p a) room = omega (arith, o.few)
    fits (Insert x len) room = omega (arith, room (omega arith))
    fits (Append x len) room = omega (arith, room (omega arith))

plain : (n c most : ℕ) (m : Memory) (k : Call) (s : Model) → (asks k ≡ 1 → ⊥) → Agrees n c most m (run m (script_of n c most k)) (said (answer_of c k s.heap)) (left s (asks k) (answer_of c k s.heap))
    → Agrees n c most m (run m (script_of n c most k)) (answers c most k s) (next c most k s)
plain n c most m k s ne w =
    rw (
      eq_no (asks k) 1 (if_eq s.regions most (not 6) (said (answer_of c k s.heap))) (said (answer_of c k s.heap)) ne,
      eq_no (asks k) 1 (if_eq s.regions most s (left s (asks k) (answer_of c k s.heap))) (left s (asks k) (answer_of c k s.heap)) ne,
    ) w

region : (n c most : ℕ) (m : Memory) (k : Call) (s : Model) → asks k ≡ 1
    → (s.regions ≡ most → Agrees n c most m (run m (script_of n c most k)) (not 6) s)
    → ((s.regions ≡ most → ⊥) → Agrees n c most m (run m (script_of n c most k)) (said (answer_of c k s.heap)) (left s (asks k) (answer_of c k s.heap)))
    → Agrees n c most m (run m (script_of n c most k)) (answers c most k s) (next c most k s)
region n c most m k s e full some =
    rw (
      eq_yes (asks k) 1 (if_eq s.regions most (not 6) (said (answer_of c k s.heap))) (said (answer_of c k s.heap)) e,
      eq_yes (asks k) 1 (if_eq s.regions most s (left s (asks k) (answer_of c k s.heap))) (left s (asks k) (answer_of c k s.heap)) e,
    ) (⊎_elim
    (λ (q : s.regions ≡ most). rw (eq_yes s.regions most (not 6) (said (answer_of c k s.heap)) q, eq_yes s.regions most s (left s (asks k) (answer_of c k s.heap)) q) (full q))
    (λ (q : s.regions ≡ most → ⊥). rw (eq_no s.regions most (not 6) (said (answer_of c k s.heap)) q, eq_no s.regions most s (left s (asks k) (answer_of c k s.heap)) q) (some q))
    (same? s.regions most))

pub one_agrees : (n c most : ℕ) (m : Memory) (k : Call) (s : Model) → 1 ≤ c → Fair k → Stands n c most m s → Agrees n c most m (run m (script_of n c most k)) (answers c most k s) (next c most k s)
one_agrees n c most m k s big fair o = go k fair
  where
    met : (k : Call) → Fair k → (1 ≤ asks k → s.regions < most) → (NeedsRoom k → m Table 0 < most) → Agrees n c most m (run m (script_of n c most k)) (said (answer_of c k s.heap)) (left s (asks k) (answer_of c k s.heap))
    met k fair room less = meets_agrees n c most m k s (answer_of c k s.heap) o room (call_meets n c most m s.heap o.sound big k fair less)

    full : (k : Call) → run m (script_of n c most k) ≡ no 6 → Agrees n c most m (run m (script_of n c most k)) (not 6) s
    full k e = subst (λ (r : Result Plan). Agrees n c most m r (not 6) s) (sym e) (record { heard = refl; stands = o })

    less : (s.regions ≡ most → ⊥) → m Table 0 < most
    less q = omega (arith, o.count, o.few, q)

    go : (k : Call) → Fair k → Agrees n c most m (run m (script_of n c most k)) (answers c most k s) (next c most k s)
    go (Allocate p a) fair = plain n c most m (Allocate p a) s (omega arith) (met (Allocate p a) fair (λ i. absurd (omega arith)) (λ i. absurd i))
    go (Deallocate q) fair = plain n c most m (Deallocate q) s (omega arith) (met (Deallocate q) fair (λ i. absurd (omega arith)) (λ i. absurd i))
    go (Reallocate q p a) fair = plain n c most m (Reallocate q p a) s (omega arith) (met (Reallocate q p a) fair (λ i. absurd (omega arith)) (λ i. absurd i))
    go (Insert x len) fair = region n c most m (Insert x len) s refl (λ q. full (Insert x len) (full_refused most 0 n c x len m (o.count ∙ q)))
        (λ q. met (Insert x len) fair (λ i. omega (arith, o.few, q)) (λ i. less q))
    go (Append x len) fair = region n c most m (Append x len) s refl (λ q. full (Append x len) (full_refused most 1 n c x len m (o.count ∙ q)))
        (λ q. met (Append x len) fair (λ i. omega (arith, o.few, q)) (λ i. less q))

-- ---- all of them: the callers write, and then a call comes

module _ (n c most : ℕ) where
  -- what is heard in memory. The callers know their payloads by the heap of the definition.
  abbrev pub replies : Memory → Model → List Turn → List Reply
  replies m s [] = []
  replies m s (t ∷ l) = let r = run (t.fill s.heap m) (script_of n c most t.call) in reply r ∷ replies (written (t.fill s.heap m) r) (next c most t.call s) l

  abbrev pub memory_end : Memory → Model → List Turn → Memory
  memory_end m s [] = m
  memory_end m s (t ∷ l) = memory_end (written (t.fill s.heap m) (run (t.fill s.heap m) (script_of n c most t.call))) (next c most t.call s) l

  -- and in the definition
  abbrev pub defined : Model → List Turn → List Reply
  defined s [] = []
  defined s (t ∷ l) = answers c most t.call s ∷ defined (next c most t.call s) l

  abbrev pub model_end : Model → List Turn → Model
  model_end s [] = s
  model_end s (t ∷ l) = model_end (next c most t.call s) l

  -- T5
  pub runs : 1 ≤ c → (m : Memory) (s : Model) (l : List Turn) → Stands n c most m s → (replies m s l ≡ defined s l) × Stands n c most (memory_end m s l) (model_end s l)
  runs big m s [] o = (refl, o)
  runs big m s (t ∷ l) o =
      let d = t.fill s.heap m in
      let v = t.filled s.heap m in
      let w = one_agrees n c most d t.call s big t.fair (record { sound = filled_sound n c m d s.heap v o.sound; count = ap (λ (f : ℕ → ℕ). f 0) v.regions ∙ o.count; few = o.few }) in
      let j = runs big (written d (run d (script_of n c most t.call))) (next c most t.call s) l w.stands in
      (cc (w.heard, j.0), j.1)
