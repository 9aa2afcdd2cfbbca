-- A plan of the code, as the script answers it: the writes, spelled from the plan's numbers; or a refusal; or that the call
-- goes on, since the payload can't stay; and what makes the writes possible.
use Rattle.std.specs.Prelude.{ℕ, ◌+◌, ◌≤◌, ◌<◌, ◌≡◌, List, [], ◌++◌, Option, Result, Ok, Err, IfOk}
use Rattle.std.proofs.Common.{sym}
use Rattle.bits.specs.Map.{lists}
use Rattle.definition.specs.Calls.{keeps}
use Rattle.script.specs.Memory.{Memory, Write}
use Rattle.script.specs.Script.{Script, ok, no, run}
use Rattle.script.specs.Script.{Result as Answer}
use Rattle.refusal.specs.Number.{number}
use Rattle.refusal.specs.declared.Refusal.{Refusal}
use Rattle.sound.specs.Plans.{Plan, move_script}
use Rattle.slices.specs.Decode.{grains}
use Rattle.free_list.specs.Lent.{held, classes, link, Leads}
use Rattle.neighbours.specs.declared.Neighbour.{Neighbour}
use Rattle.neighbours.specs.Shown.{seen_of, grains_of}
use Rattle.neighbours.specs.After.{leaving_of}
use Rattle.neighbours.specs.Leaving.{Known}
use Rattle.neighbours.specs.Within.{Behind}
use Rattle.carve.specs.Made.{left_behind}
use Rattle.stretch.specs.declared.Fit.{Fit}
use Rattle.stretch.specs.declared.Plan.{Plan as PlanAnswer}
use Rattle.stretch.specs.declared.Plan.TheVariants.{Same, Fitted, Short}

-- ---- what a plan says

-- the neighbour leaves its list; of the block of s grains at x and its own grains, m are kept
abbrev pub stretch_writes : List ℕ → ℕ → ℕ → ℕ → Fit → List Write
stretch_writes a x s m r = leaving_of a r.behind ++ left_behind x (s + grains_of r.behind) m r.list (link a r.head)

-- the payload at q stays where it is
abbrev pub stays : ℕ → List Write → Plan
stays q w = record { answer = q; writes = w; moved = 0; early = 0 }

-- what a plan says on the memory c, for the payload at q, of which p half grains at a multiple of u are wanted: where it has
-- to move, what the rest of the script says
abbrev pub says : List ℕ → Memory → ℕ → ℕ → ℕ → ℕ → ℕ → ℕ → PlanAnswer → Answer Plan
says a c q p u x s m Same = ok (stays q [])
says a c q p u x s m (Fitted f) = ok (stays q (stretch_writes a x s m f))
says a c q p u x s m (Short e) = run c (move_script (grains 8 a) classes q p u x s (seen_of a e))

-- or a refusal
abbrev pub shown : List ℕ → Memory → ℕ → ℕ → ℕ → ℕ → ℕ → ℕ → Result PlanAnswer Refusal → Answer Plan
shown a c q p u x s m (Ok r) = says a c q p u x s m r
shown a c q p u x s m (Err r) = no (number r)

-- ---- what is asked for writing: room for both, a list that is there, links that lead

pub record Able (a : List ℕ) (x s m : ℕ) (r : Fit) : Type 0 where
  pub behind : Known a r.behind
  pub inside : x + (s + grains_of r.behind) < grains 8 a
  pub kept : m ≤ s + grains_of r.behind
  pub rest : (m ≡ s + grains_of r.behind → ⊥) → (r.list < lists) × Leads a r.head

-- ---- a plan r of the code, for a script S that stretches the block of s grains at x to the m that its payload needs

-- what stands behind it is as it was seen; it is enough, and can be written, or too little
abbrev pub Ready : List ℕ → ℕ → ℕ → ℕ → PlanAnswer → Type 0
Ready a x s m Same = Unit {0}
Ready a x s m (Fitted f) = Behind a x s f.behind × Able a x s m f
Ready a x s m (Short e) = Behind a x s e × (s + grains_of e < m)

pub record Planned (a l : List ℕ) (S : ℕ → ℕ → ℕ → ℕ → Script Plan) (x s m : ℕ) (r : Result PlanAnswer Refusal) : Type 0 where
  pub answers : (q p u d : ℕ) → keeps d p ≡ m → (v t : List ℕ) → shown a (held a l v t) q p u x s m r ≡ run (held a l v t) (S q p u d)
  pub ready : IfOk r (Ready a x s m)

-- ---- as a call that was planned finds it

module _ (a l v t : List ℕ) (S : ℕ → ℕ → ℕ → ℕ → Script Plan) (q p u d x s m : ℕ) (k : keeps d p ≡ m) where
  -- refused
  pub stretch_refused : (r : Refusal) → Planned a l S x s m (Err r) → run (held a l v t) (S q p u d) ≡ no (number r)
  stretch_refused r h = sym (h.answers q p u d k v t)

  -- nothing to do
  pub stretch_same : Planned a l S x s m (Ok Same) → run (held a l v t) (S q p u d) ≡ ok (stays q [])
  stretch_same h = sym (h.answers q p u d k v t)

  -- written in place
  pub stretch_fitted : (f : Fit) → Planned a l S x s m (Ok (Fitted f)) → run (held a l v t) (S q p u d) ≡ ok (stays q (stretch_writes a x s m f))
  stretch_fitted f h = sym (h.answers q p u d k v t)

  -- the payload has to move
  pub stretch_short :
      (e : Option Neighbour) → Planned a l S x s m (Ok (Short e))
      → run (held a l v t) (S q p u d) ≡ run (held a l v t) (move_script (grains 8 a) classes q p u x s (seen_of a e))
  stretch_short e h = sym (h.answers q p u d k v t)
