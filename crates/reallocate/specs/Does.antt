-- What the functions of a resize say and leave: what their script answers on the lent slices, whatever is in them. A refusal
-- leaves everything as it was.
use Rattle.std.specs.Prelude.{ℕ, ◌≡◌, List, Option, Result, Ok, Err}
use Rattle.script.specs.Script.{Script, ok, no, run}
use Rattle.script.specs.Script.{Result as Answer}
use Rattle.refusal.specs.Number.{number}
use Rattle.refusal.specs.declared.Refusal.{Refusal}
use Rattle.sound.specs.Plans.{Plan, elsewhere_script, move_script, resize_script}
use Rattle.sound.specs.Runs.{Reply, yes, not}
use Rattle.slices.specs.Decode.{grains}
use Rattle.slices.specs.Slices.{Slices}
use Rattle.carry.specs.Carry.{carried}
use Rattle.free_list.specs.Lent.{lent, held, classes}
use Rattle.neighbours.specs.declared.Neighbour.{Neighbour}
use Rattle.neighbours.specs.Shown.{seen_of}

-- what a call that answers o, for the payload at q, says and leaves
pub data Does (S : Slices) (q : ℕ) (o : Answer Plan) : Reply → Slices → Type 0 where
  refused : (i : ℕ) → o ≡ no i → Does S q o (not i) S
  granted : (p : Plan) → o ≡ ok p → Does S q o (yes p.answer) (carried S q p)

-- ---- the answers of the code

-- what was granted, as f counts it, or the number of a refusal
abbrev pub replied : {A : Type 0} → (A → ℕ) → Result A Refusal → Reply
replied f (Ok x) = yes (f x)
replied f (Err r) = not (number r)

-- where the payload is
abbrev pub resized : Result ℕ Refusal → Reply
resized r = replied (λ x. x) r

-- ---- the arena a, the lists l and the live bits v become b, m and o, whatever the regions are, which stay

abbrev pub Follows : List ℕ → List ℕ → List ℕ → ℕ → Script Plan → Reply → List ℕ → List ℕ → List ℕ → Type 0
Follows a l v q s r b m o = (t : List ℕ) → Does (lent a l v t) q (run (held a l v t) s) r (lent b m o t)

-- the payload at q, of which u half grains are carried, goes where p at a multiple of n are taken
abbrev pub GoesElsewhere : List ℕ → List ℕ → List ℕ → ℕ → ℕ → ℕ → ℕ → Reply → List ℕ → List ℕ → List ℕ → Type 0
GoesElsewhere a l v q u p n r b m o = Follows a l v q (elsewhere_script (grains 8 a) classes q p n u) r b m o

-- the same payload, in the used block of s grains at x, behind which e was seen, moves down or elsewhere
abbrev pub Moves : List ℕ → List ℕ → List ℕ → ℕ → ℕ → ℕ → Option Neighbour → ℕ → ℕ → Reply → List ℕ → List ℕ → List ℕ → Type 0
Moves a l v q x s e p n r b m o = Follows a l v q (move_script (grains 8 a) classes q p n x s (seen_of a e)) r b m o

-- the whole call
abbrev pub Resizes : List ℕ → List ℕ → List ℕ → ℕ → ℕ → ℕ → Reply → List ℕ → List ℕ → List ℕ → Type 0
Resizes a l v q p n r b m o = Follows a l v q (resize_script (grains 8 a) classes q p n) r b m o
