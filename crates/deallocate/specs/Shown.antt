-- A plan of the code, as the script answers it: the writes, spelled from the plan's numbers; and what makes them possible.
use Rattle.std.specs.Prelude.{ℕ, ◌+◌, ◌-◌, ◌≤◌, ◌<◌, ◌≡◌, List, ◌++◌, length, Option, IfNone, Result, IfOk}
use Rattle.std.proofs.Common.{arith, ap, ◌∙◌, subst}
use Rattle.bits.specs.Map.{lists}
use Rattle.script.specs.Memory.{Write}
use Rattle.script.specs.Script.{Script, run, ◌>>=◌}
use Rattle.sound.specs.Checks.{Beside, see_behind, see_before}
use Rattle.sound.specs.Links.{push_writes}
use Rattle.sound.specs.Plans.{Plan, room_of, both_leave, free_writes, join_script, give_back_script}
use Rattle.slices.specs.Decode.{grains}
use Rattle.slices.proofs.Decode.{grains_keep}
use Rattle.free_list.specs.Lent.{held, classes, link, Leads, link_keep, leads_keep}
use Rattle.refusal.specs.Answered.{answered_as}
use Rattle.refusal.specs.declared.Refusal.{Refusal}
use Rattle.neighbours.specs.declared.Neighbour.{Neighbour}
use Rattle.neighbours.specs.Shown.{grains_of}
use Rattle.neighbours.specs.Leaving.{Known, Stands, both_leaving, known_keep, both_keep}
use Rattle.neighbours.specs.Within.{Behind}
use Rattle.deallocate.specs.declared.Plan.{Plan as PlanAnswer}

-- ---- the writes

-- of the joined block
abbrev pub joined_writes : List ℕ → ℕ → PlanAnswer → List Write
joined_writes a q r = push_writes r.list r.at (link a r.head) ++ free_writes q r.at r.grains

-- of all: its neighbours left before
abbrev pub back_writes : List ℕ → ℕ → PlanAnswer → List Write
back_writes a q r = (both_leaving a r.behind r.before ++ push_writes r.list r.at (link a r.head)) ++ free_writes q r.at r.grains

-- the plan for the payload at q
abbrev pub plan_of : List ℕ → ℕ → PlanAnswer → Plan
plan_of a q r = record { answer = 0; moved = 0; early = 0; writes = back_writes a q r }

-- ---- what is asked for writing them: lists that are there, links that lead

pub record Able (a : List ℕ) (r : PlanAnswer) : Type 0 where
  pub behind : Known a r.behind
  pub before : Known a r.before
  pub inside : r.at + r.grains < grains 8 a
  pub list : r.list < lists
  pub head : Leads a r.head

-- only the arena's length counts for both: the bytes may have been carried before they are written
pub back_keep : (a b : List ℕ) (q : ℕ) (r : PlanAnswer) → length b ≡ length a → back_writes b q r ≡ back_writes a q r
back_keep a b q r e =
    ap (λ (w : List Write). (w ++ push_writes r.list r.at (link b r.head)) ++ free_writes q r.at r.grains) (both_keep a b r.behind r.before e)
    ∙ ap (λ (h : ℕ). (both_leaving a r.behind r.before ++ push_writes r.list r.at h) ++ free_writes q r.at r.grains) (link_keep a b r.head e)

pub able_keep : (a b : List ℕ) (r : PlanAnswer) → length b ≡ length a → Able a r → Able b r
able_keep a b r e h = record {
  behind = known_keep a b r.behind e h.behind;
  before = known_keep a b r.before e h.before;
  inside = rw (grains_keep 8 a b e) h.inside;
  list = h.list;
  head = leads_keep a b r.head e h.head;
}

-- while nothing is written: the joined block, of t grains at z, ends with e, and the words of the one that leaves first, e or
-- else f, are its links
pub record Standing (a : List ℕ) (z t : ℕ) (e f : Option Neighbour) : Type 0 where
  pub ends : grains_of e ≤ t
  pub behind : Stands a (z + t - grains_of e) e
  pub before : IfNone e (Stands a z f)

-- what is asked for writing the plan r then
abbrev pub AbleHere : List ℕ → PlanAnswer → Type 0
AbleHere a r = Able a r × Standing a r.at r.grains r.behind r.before

-- as e stands behind the block of s grains at x
pub standing : (a : List ℕ) (x s z t : ℕ) (e f : Option Neighbour) → Behind a x s e → z ≤ x → z + t ≡ x + (s + grains_of e) → IfNone e (Stands a z f) → Standing a z t e f
standing a x s z t e f b l i h =
    let j : x + s ≡ z + t - grains_of e = omega arith in
    record { ends = omega arith; behind = subst (λ (y : ℕ). Stands a y e) j b.stands; before = h }

-- ---- the script behind the owner, a used block of s grains at x

-- behind which a stands
abbrev pub before_script : ℕ → ℕ → ℕ → ℕ → Beside → Script Plan
before_script n q x s a = do
  b ← see_before n classes x
  join_script n classes q (x - room_of b) (room_of b + (s + room_of a)) (both_leave a (x - room_of b) b)

abbrev pub merge_script : ℕ → ℕ → ℕ → ℕ → Script Plan
merge_script n q x s = see_behind n classes (x + s) >>= before_script n q x s

-- a plan r of the code, for a script S that plans the return of a payload
pub record Planned (a l : List ℕ) (S : ℕ → Script Plan) (r : Result PlanAnswer Refusal) : Type 0 where
  pub answer : (q : ℕ) (v t : List ℕ) → answered_as (plan_of a q) r ≡ run (held a l v t) (S q)
  pub able : IfOk r (AbleHere a)

-- for the whole script, and the payload at q
pub record BackPlanned (a l v : List ℕ) (q : ℕ) (r : Result PlanAnswer Refusal) : Type 0 where
  pub answer : (t : List ℕ) → answered_as (plan_of a q) r ≡ run (held a l v t) (give_back_script (grains 8 a) classes q)
  pub able : IfOk r (AbleHere a)
