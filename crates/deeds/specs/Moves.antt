-- A deed that moves a payload: the early steps, the move, the late ones, the guards and then the tags. At most one block enters
-- a list late, and for that no word of the arena is read. So it writes what it would have written before the move.
use Rattle.std.specs.Prelude.{ℕ, ◌*◌, ◌≡◌, refl, length}
use Rattle.std.proofs.Math.Path.{ap}
use Rattle.std.proofs.Common.{sym, ◌∙◌}
use mathlib.Core.List.{List, [], ◌∷◌, ◌++◌}
use Rattle.choice.specs.Choice.{eq_case}
use Rattle.copy.specs.Moved.{moved}
use Rattle.script.specs.Memory.{Memory, Mark, Write, apply}
use Rattle.machine.specs.Machine.{half}
use Rattle.tags.specs.Each.{Each}
use Rattle.tags.specs.Within.{ToTag}
use Rattle.chains.specs.Links.{Head}
use Rattle.chains.specs.Steps.{Step, enter, steps_writes}
use Rattle.plans.specs.Deeds.{Deed, guard_writes, early_writes, late_writes, plan_of}
use Rattle.plans.specs.Allocate.{rest_steps}
use Rattle.lent.specs.Slices.{Slices, memory_of, stores}
use Rattle.lent.proofs.Kept.{grains_keep, stores_append}
use Rattle.lent.proofs.Stored.{stores_memory}
use Rattle.lent.specs.Shifted.{shifted, carried_out}
use Rattle.stamps.specs.Stores.{tag_stores, stores_tags}
use Rattle.entries.specs.Answers.{slices}
use Rattle.deeds.specs.Stored.{stepped}
use Rattle.deeds.specs.Runs.{Runs, CanRun, can_all, run_left}
use Rattle.deeds.specs.Done.{guarded, guards_stored}

-- ---- at most one block enters

pub data Late : List Step → Type 0 where
  nothing : Late []
  one : (k y : ℕ) → Late (enter k y ∷ [])

pub rest_late : (x t k : ℕ) → Late (rest_steps x t k)
rest_late x t k = eq_case Late k t _ _ (λ _. nothing) (λ _. one _ _)

late_same : (l : List Step) → Late l → (m u : Memory) → ((k : ℕ) → m Mark k ≡ u Mark k) → ((k : ℕ) → m Head k ≡ u Head k) → steps_writes m l ≡ steps_writes u l
late_same l nothing m u e f = refl
late_same l (one k y) m u e f = rw (e k, f k) refl

-- it can still enter when the payload has moved
pub can_moved : (l : List Step) → Late l → (a b ls : List ℕ) → length b ≡ length a → CanRun l a ls → CanRun l b ls
unfolding memory_of
can_moved l nothing a b ls e c t g =
    let n = grains_keep a b e in
    let d = c t g in
    record { lists = d.lists; few = rw n d.few; blocks = tt; ready = tt; shown = record { heads = d.shown.heads; marks = d.shown.marks } }
can_moved l (one k y) a b ls e c t g =
    let n = grains_keep a b e in
    let d = c t g in
    record {
      lists = d.lists;
      few = rw n d.few;
      blocks = tt;
      ready = ((d.ready.0.0, rw n d.ready.0.1, rw n d.ready.0.2), tt);
      shown = record { heads = d.shown.heads; marks = d.shown.marks };
    }

-- ---- the whole

module _ (d : Deed) (q : ℕ) (a ls t g a1 l1 a2 a3 l2 : List ℕ) (c : CanRun (d.early ++ d.late) a ls) (r1 : Runs d.early a ls a1 l1)
    (e : a2 ≡ moved a1 (half * q) (half * d.answer) (half * d.moved)) (late : Late d.late) (r2 : Runs d.late a2 l1 a3 l2) where
  abbrev S0 : Slices
  S0 = slices a ls t g

  abbrev S1 : Slices
  S1 = slices a1 l1 t g

  abbrev S2 : Slices
  S2 = slices a2 l1 t g

  -- the memory that the early steps leave
  early_memory : apply (memory_of S0) (early_writes (memory_of S0) d) ≡ memory_of S1
  early_memory =
      sym (stores_memory S0 (early_writes (memory_of S0) d) (can_all d.early S0 (run_left d.early d.late a ls [] [] c t g)))
      ∙ ap memory_of (sym (r1.is t g))

  -- what is written late
  late_writes_lem : late_writes (memory_of S0) d ≡ steps_writes (memory_of S2) d.late ++ (guard_writes d.guards ++ d.records)
  unfolding memory_of
  late_writes_lem =
      ap (λ (m : Memory). steps_writes m d.late ++ (guard_writes d.guards ++ d.records)) early_memory
      ∙ ap (λ (w : List Write). w ++ (guard_writes d.guards ++ d.records)) (late_same d.late late (memory_of S1) (memory_of S2) (λ k. refl) (λ k. refl))

  moved_slices : shifted (stores S0 (early_writes (memory_of S0) d)) q d.answer d.moved ≡ S2
  moved_slices = ap (λ (S : Slices). shifted S q d.answer d.moved) (sym (r1.is t g)) ∙ ap (λ (v : List ℕ). slices v l1 t g) (sym e)

  pub carried_done : (b u : List ℕ) → b ≡ guarded a3 d.guards → Each ToTag d.records → u ≡ tag_stores t d.records → slices b l2 u g ≡ carried_out S0 q (plan_of (memory_of S0) d)
  carried_done b u f i h =
      ap (λ (v : List ℕ). slices v l2 u g) f
      ∙ ap (λ (v : List ℕ). slices (guarded a3 d.guards) l2 v g) h
      ∙ sym (stores_tags (slices (guarded a3 d.guards) l2 t g) d.records i)
      ∙ ap (λ (S : Slices). stores S d.records) (guards_stored a3 l2 t g d.guards)
      ∙ ap (λ (S : Slices). stores (stores S (guard_writes d.guards)) d.records) (r2.is t g)
      ∙ sym (stores_append (stepped S2 d.late) (guard_writes d.guards) d.records)
      ∙ sym (stores_append S2 (steps_writes (memory_of S2) d.late) (guard_writes d.guards ++ d.records))
      ∙ ap (stores S2) (sym late_writes_lem)
      ∙ ap (λ (S : Slices). stores S (late_writes (memory_of S0) d)) (sym moved_slices)
