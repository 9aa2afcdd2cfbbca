-- Steps made on the arena and the lists (`Runs`), and what must be known before the first of them (`CanRun`): the links of
-- the blocks that leave, and the heads before which blocks enter, are grains. It is then known before each later one.
use Rattle.std.specs.Prelude.{ℕ, ◌+◌, ◌<◌, ◌≡◌, refl, length}
use Rattle.std.proofs.Common.{arith, ap, sym, ◌∙◌, subst, ⊎_elim}
use mathlib.Core.List.{List, [], ◌∷◌, ◌++◌}
use Rattle.table.specs.Table.{entry}
use Rattle.bits.specs.Map.{map_bit}
use Rattle.bits.proofs.Map.{map_bit_lt}
use Rattle.script.specs.Memory.{Memory, Write, apply}
use Rattle.machine.specs.Machine.{words, classes, map_words}
use Rattle.machine.specs.Machine.{lists as list_count}
use Rattle.tags.specs.Each.{Each}
use Rattle.chains.specs.Steps.{Step, leave, enter, step_writes, steps_writes}
use Rattle.chains.specs.Closed.{LinkWrite, at_next, at_prev, at_head, at_mark, Ready, Shown, Fit}
use Rattle.chains.proofs.Closed.{leave_ready, enter_ready, leave_shown, enter_shown, steps_done}
use Rattle.plans.specs.StorableParts.{bounds}
use Rattle.lent.specs.Slices.{Slices, grains, memory_of, stores, AllValid, Valid}
use Rattle.lent.specs.Kept.{Lengths}
use Rattle.lent.proofs.Kept.{stores_lengths, grains_keep, all_valid_keep, all_valid_append}
use Rattle.lent.proofs.Stored.{stores_memory}
use Rattle.entries.specs.Answers.{slices, Long}
use Rattle.entries.specs.Stepped.{Stepped, stepped_stores, Leaves, Enters}
use Rattle.deeds.specs.Stored.{stepped, steps_stored, more_stored}

-- the arena and the lists after some steps; the tags and the regions are as they were
pub record Runs (l : List Step) (a ls b d : List ℕ) : Type 0 where
  pub is : (t g : List ℕ) → slices b d t g ≡ stepped (slices a ls t g) l

-- every block that leaves is a grain
abbrev pub Blocks : ℕ → List Step → Type 0
Blocks n [] = Unit {0}
Blocks n (leave k y ∷ l) = (y < n) × Blocks n l
Blocks n (enter k y ∷ l) = Blocks n l

pub record Can (l : List Step) (S : Slices) : Type 0 where
  pub lists : Long S.lists
  pub few : grains S.arena < words
  pub blocks : Blocks (grains S.arena) l
  pub ready : Ready (bounds (grains S.arena) classes words) (memory_of S) l
  pub shown : Shown (bounds (grains S.arena) classes words) (memory_of S)

abbrev pub CanRun : List Step → List ℕ → List ℕ → Type 0
CanRun l a ls = (t g : List ℕ) → Can l (slices a ls t g)

-- ---- one step

module _ (S : Slices) where
  link_valid : Long S.lists → grains S.arena < words → (l : List Write) → Each (LinkWrite (bounds (grains S.arena) classes words)) l → AllValid S l
  link_valid h f [] e = tt
  link_valid h f (w ∷ l) e = (one w e.0, link_valid h f l e.1)
    where
      one : (w : Write) → LinkWrite (bounds (grains S.arena) classes words) w → Valid S w
      one w (at_next {x} {v} a b) = (a, omega (arith, b, f))
      one w (at_prev {x} {v} a b) = (a, omega (arith, b, f))
      one w (at_head {k} {v} a b) = (omega (arith, a, h), b)
      one w (at_mark {k} {v} a b) = (a, omega (arith, h), b)

  fit : grains S.arena < words → Fit (bounds (grains S.arena) classes words)
  fit f = record { head = λ v l. omega (arith, l, f); clear = omega arith; set = omega arith }

  pub can_valid : (s : Step) (l : List Step) → Can (s ∷ l) S → AllValid S (step_writes (memory_of S) s)
  can_valid (leave k y) l c = link_valid c.lists c.few (step_writes (memory_of S) (leave k y)) (steps_done (bounds (grains S.arena) classes words) (fit c.few) (memory_of S) (leave k y ∷ []) c.shown (c.ready.0, tt)).writes
  can_valid (enter k y) l c = link_valid c.lists c.few (step_writes (memory_of S) (enter k y)) (steps_done (bounds (grains S.arena) classes words) (fit c.few) (memory_of S) (enter k y ∷ []) c.shown (c.ready.0, tt)).writes

  -- what is known before a step and the others is known before the others
  module _ (w : List Write) (v : AllValid S w) where
    later : (l : List Step) → Long S.lists → grains S.arena < words → Blocks (grains S.arena) l
        → Ready (bounds (grains S.arena) classes words) (apply (memory_of S) w) l → Shown (bounds (grains S.arena) classes words) (apply (memory_of S) w) → Can l (stores S w)
    later l h f b r s =
        let e = stores_lengths S w in
        let g = grains_keep S.arena (stores S w).arena e.arena in
        record {
          lists = rw e.lists h;
          few = rw g f;
          blocks = rw g b;
          ready = rw (g, stores_memory S w v) r;
          shown = rw (g, stores_memory S w v) s;
        }

  pub can_next : (s : Step) (l : List Step) → Can (s ∷ l) S → Can l (stores S (step_writes (memory_of S) s))
  can_next (leave k y) l c =
      let o = bounds (grains S.arena) classes words in
      later (step_writes (memory_of S) (leave k y)) (can_valid (leave k y) l c) l c.lists c.few c.blocks.1
      (leave_ready o (fit c.few) (memory_of S) c.shown k y c.ready.0.1 c.ready.0.2 l c.ready.1)
      (leave_shown o (fit c.few) (memory_of S) c.shown k y c.ready.0.1 c.ready.0.2)
  can_next (enter k y) l c =
      let o = bounds (grains S.arena) classes words in
      later (step_writes (memory_of S) (enter k y)) (can_valid (enter k y) l c) l c.lists c.few c.blocks
      (enter_ready o (fit c.few) (memory_of S) c.shown k y c.ready.0.1 c.ready.0.2 l c.ready.1)
      (enter_shown o (fit c.few) (memory_of S) c.shown k y c.ready.0.1 c.ready.0.2)

-- ---- on the arena and the lists

-- steps read neither tags nor regions: what is known with some of them is known with any
module _ (a ls t g u h : List ℕ) where
  ready_any : (l : List Step) → Ready (bounds (grains a) classes words) (memory_of (slices a ls t g)) l → Ready (bounds (grains a) classes words) (memory_of (slices a ls u h)) l
  unfolding memory_of
  ready_any [] r = tt
  ready_any (leave k y ∷ l) r = (r.0, ready_any l r.1)
  ready_any (enter k y ∷ l) r = (r.0, ready_any l r.1)

  shown_any : Shown (bounds (grains a) classes words) (memory_of (slices a ls t g)) → Shown (bounds (grains a) classes words) (memory_of (slices a ls u h))
  unfolding memory_of
  shown_any s = record { heads = s.heads; marks = s.marks }

pub can_any : (l : List Step) (a ls t g : List ℕ) → Can l (slices a ls t g) → CanRun l a ls
can_any l a ls t g c u h = record { lists = c.lists; few = c.few; blocks = c.blocks; ready = ready_any a ls t g u h l c.ready; shown = shown_any a ls t g u h c.shown }

-- every mark is a bit, and every head a word, if all words of the lists are
pub shown_lists : (a ls t g : List ℕ) → ((i : ℕ) → entry ls i < words) → Shown (bounds (grains a) classes words) (memory_of (slices a ls t g))
unfolding memory_of
shown_lists a ls t g h = record { heads = λ k. h (map_words + k); marks = λ k. omega (arith, map_bit_lt ls k) }

-- a block leaves, a block enters
pub can_leave : (k y : ℕ) (l : List Step) (a ls : List ℕ) → CanRun (leave k y ∷ l) a ls → Long ls × (k < list_count) × (y < grains a) × Leaves a y
unfolding memory_of
can_leave k y l a ls c = let d = c [] [] in (d.lists, d.ready.0.0, d.blocks.0, record { next = d.ready.0.1; prev = d.ready.0.2 })

pub can_enter : (k y : ℕ) (l : List Step) (a ls : List ℕ) → CanRun (enter k y ∷ l) a ls → Long ls × (k < list_count) × (y < grains a) × Enters a ls k
unfolding memory_of
can_enter k y l a ls c = let d = c [] [] in (d.lists, d.ready.0.0, d.ready.0.1, λ e. ⊎_elim (λ (z : map_bit ls k ≡ 0). absurd (omega (arith, z, e))) (λ f. f) d.ready.0.2)

-- after a step the others can run
pub run_next : (s : Step) (l : List Step) (a ls b d : List ℕ) → CanRun (s ∷ l) a ls → Stepped s a ls b d → CanRun l b d
run_next s l a ls b d c h t g = rw (stepped_stores s h t g) (can_next (slices a ls t g) s l (c t g))

-- none; a step, and then the others
pub runs_none : (a ls : List ℕ) → Runs [] a ls a ls
runs_none a ls = record { is = λ t g. refl }

pub runs_then : (s : Step) (l : List Step) (a ls b d e f : List ℕ) → CanRun (s ∷ l) a ls → Stepped s a ls b d → Runs l b d e f → Runs (s ∷ l) a ls e f
runs_then s l a ls b d e f c h r = record {
  is = λ t g. r.is t g ∙ ap (λ (S : Slices). stepped S l) (stepped_stores s h t g) ∙ sym (steps_stored (slices a ls t g) s l (can_valid (slices a ls t g) s l (c t g)));
}

-- ---- some steps, and then others

pub blocks_append : (n : ℕ) (l r : List Step) → Blocks n l → Blocks n r → Blocks n (l ++ r)
blocks_append n [] r h k = k
blocks_append n (leave j y ∷ l) r h k = (h.0, blocks_append n l r h.1 k)
blocks_append n (enter j y ∷ l) r h k = blocks_append n l r h k

blocks_left : (n : ℕ) (l r : List Step) → Blocks n (l ++ r) → Blocks n l
blocks_left n [] r h = tt
blocks_left n (leave k y ∷ l) r h = (h.0, blocks_left n l r h.1)
blocks_left n (enter k y ∷ l) r h = blocks_left n l r h

ready_left : (n : ℕ) (m : Memory) (l r : List Step) → Ready (bounds n classes words) m (l ++ r) → Ready (bounds n classes words) m l
ready_left n m [] r h = tt
ready_left n m (leave k y ∷ l) r h = (h.0, ready_left n m l r h.1)
ready_left n m (enter k y ∷ l) r h = (h.0, ready_left n m l r h.1)

pub can_left : (l r : List Step) (S : Slices) → Can (l ++ r) S → Can l S
can_left l r S c = record {
  lists = c.lists;
  few = c.few;
  blocks = blocks_left (grains S.arena) l r c.blocks;
  ready = ready_left (grains S.arena) (memory_of S) l r c.ready;
  shown = c.shown;
}

pub can_right : (l r : List Step) (S : Slices) → Can (l ++ r) S → Can r (stepped S l)
can_right [] r S c = c
can_right (s ∷ l) r S c = rw (steps_stored S s l (can_valid S s (l ++ r) c)) (can_right l r (stores S (step_writes (memory_of S) s)) (can_next S s (l ++ r) c))

lengths_back : (S T : Slices) → Lengths S T → Lengths T S
lengths_back S T e = record { arena = sym e.arena; lists = sym e.lists; tags = sym e.tags; regions = sym e.regions }

-- all that is stored for steps that can run fits
pub can_all : (l : List Step) (S : Slices) → Can l S → AllValid S (steps_writes (memory_of S) l)
can_all [] S c = tt
can_all (s ∷ l) S c =
    let w = step_writes (memory_of S) s in
    let v = can_valid S s l c in
    let e = subst (λ (m : Memory). AllValid (stores S w) (steps_writes m l)) (stores_memory S w v) (can_all l (stores S w) (can_next S s l c)) in
    all_valid_append S w (steps_writes (apply (memory_of S) w) l) v (all_valid_keep (stores S w) S (steps_writes (apply (memory_of S) w) l) (lengths_back S (stores S w) (stores_lengths S w)) e)

module _ (l r : List Step) (a ls b d : List ℕ) (c : CanRun (l ++ r) a ls) where
  pub run_left : CanRun l a ls
  run_left t g = can_left l r (slices a ls t g) (c t g)

  module _ (h : Runs l a ls b d) where
    pub run_right : CanRun r b d
    run_right t g = rw (h.is t g) (can_right l r (slices a ls t g) (c t g))

    pub runs_more : (e f : List ℕ) → Runs r b d e f → Runs (l ++ r) a ls e f
    runs_more e f k = record {
      is = λ t g. k.is t g ∙ ap (λ (S : Slices). stepped S r) (h.is t g) ∙ sym (more_stored (slices a ls t g) l r (can_all l (slices a ls t g) (run_left t g)));
    }

-- the arena has as many grains as before
pub runs_grains : (l : List Step) (a ls b d : List ℕ) → Runs l a ls b d → grains b ≡ grains a
runs_grains l a ls b d h =
    let S = slices a ls [] [] in
    grains_keep a b (ap (λ (T : Slices). length T.arena) (h.is [] []) ∙ (stores_lengths S (steps_writes (memory_of S) l)).arena)
