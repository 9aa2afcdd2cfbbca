-- A plan of the code, as the script answers it: the writes, spelled from the plan's numbers; and what makes them possible.
use Rattle.std.specs.Prelude.{ℕ, ◌+◌, ◌*◌, ◌≤◌, ◌≡◌, List, [], ◌++◌, length, Option, Some, None, IfSome, Result, IfOk}
use Rattle.table.specs.Table.{entry}
use Rattle.script.specs.Memory.{Write}
use Rattle.script.specs.Script.{run}
use Rattle.script.specs.Script.{Result as Answer}
use Rattle.sound.specs.Plans.{Plan}
use Rattle.sound.specs.RegionPlan.{piece_writes, entry_writes, region_script}
use Rattle.slices.specs.Decode.{grains}
use Rattle.free_list.specs.Lent.{held, link}
use Rattle.refusal.specs.Answered.{answered_as}
use Rattle.refusal.specs.declared.Refusal.{Refusal}
use Rattle.region.specs.Admit.{most_of, laying}
use Rattle.region.specs.Piece.{Placeable}
use Rattle.region.specs.Pieces.{full_writes, Layable}
use Rattle.give.specs.declared.Plan.{Plan as PlanAnswer}
use Rattle.give.specs.declared.Last.{Last}

-- ---- the writes

-- a last piece at x, if there is one
abbrev pub last_writes : List ℕ → ℕ → Option Last → List Write
last_writes a x None = []
last_writes a x (Some p) = piece_writes x p.grains (link a p.head)

-- all pieces
abbrev pub layout_writes : List ℕ → PlanAnswer → List Write
layout_writes a r = full_writes r.at (link a r.head) r.full ++ last_writes a (r.at + 4096 * r.full) r.last

-- the pieces, and the region in the table t
abbrev pub given_writes : List ℕ → List ℕ → PlanAnswer → List Write
given_writes a t r = layout_writes a r ++ entry_writes (entry t 0) r.at (r.at + r.used)

-- ---- the answer

-- what is planned, with c regions in the table
abbrev pub plan_of : List ℕ → ℕ → PlanAnswer → Plan
plan_of a c r = record { answer = r.used; moved = 0; early = 0; writes = layout_writes a r ++ entry_writes c r.at (r.at + r.used) }

abbrev pub shown_behind : List ℕ → ℕ → Result PlanAnswer Refusal → Answer Plan
shown_behind a c r = answered_as (plan_of a c) r

-- with the table t
abbrev pub shown : List ℕ → List ℕ → Result PlanAnswer Refusal → Answer Plan
shown a t r = shown_behind a (entry t 0) r

-- ---- what is asked for writing it

-- a last piece at x can be laid out, if there is one
abbrev pub LastAble : List ℕ → List ℕ → ℕ → Option Last → Type 0
LastAble a l x p = IfSome p (λ q. Placeable a l x q.grains q.head)

-- all pieces can be, and they are inside the arena
pub record LayoutAble (a l : List ℕ) (r : PlanAnswer) : Type 0 where
  pub full : Layable a l r.at r.full r.head
  pub last : LastAble a l (r.at + 4096 * r.full) r.last
  pub end : r.at + r.used ≤ grains 8 a

-- and the table has room for one more region
pub record Able (a l t : List ℕ) (r : PlanAnswer) : Type 0 where
  pub layout : LayoutAble a l r
  pub spare : 2 * entry t 0 + 3 ≤ length t

-- ---- a plan r of the code, for len grains from g on

-- that can be given: the answer is that of the script from the layout on, whatever the tables hold
pub record LayoutPlanned (a l : List ℕ) (g len : ℕ) (r : Result PlanAnswer Refusal) : Type 0 where
  pub answers : (c : ℕ) (v t : List ℕ) → shown_behind a c r ≡ run (held a l v t) (laying (grains 8 a) 12 g len c)
  pub able : IfOk r (LayoutAble a l)

-- for the whole script
pub record RegionPlanned (a l t : List ℕ) (behind g len : ℕ) (r : Result PlanAnswer Refusal) : Type 0 where
  pub answers : (v : List ℕ) → shown a t r ≡ run (held a l v t) (region_script (most_of t) behind (grains 8 a) 12 g len)
  pub able : IfOk r (Able a l t)
