-- The plan of a whole region: refused as the table of the regions refuses it, or as its layout is planned.
use Rattle.std.specs.Prelude.{ℕ, List, Result, Ok, Err, IfOk, ⊤}
use Rattle.std.proofs.Common.{arith, sym, ◌∙◌}
use Rattle.table.specs.Table.{entry}
use Rattle.refusal.specs.declared.Refusal.{Refusal}
use Rattle.slices.specs.Decode.{grains}
use Rattle.slices.proofs.Slices.{memory_table}
use Rattle.free_list.specs.Lent.{held, lent}
use Rattle.region.specs.Admit.{Answered}
use Rattle.give.specs.declared.Plan.{Plan as PlanAnswer}
use Rattle.give.specs.Shown.{LayoutAble, LayoutPlanned, Able, RegionPlanned}

module _ (a l t : List ℕ) (behind g len : ℕ) where
  -- it is not admitted
  pub region_refused : (r : Refusal) → Answered t behind (grains 8 a) g len (Err r) → RegionPlanned a l t behind g len (Err r)
  region_refused r admitted = record { answers = λ v. sym (admitted.script (held a l v t) (memory_table 8 (lent a l v t)) 12); able = tt }

  -- it is, and then the layout decides
  pub region_planned : {u : ⊤} → Answered t behind (grains 8 a) g len (Ok u) → (r : Result PlanAnswer Refusal) → LayoutPlanned a l g len r → RegionPlanned a l t behind g len r
  region_planned admitted r p = record { answers = λ v. p.answers (entry t 0) v t ∙ sym (admitted.script (held a l v t) (memory_table 8 (lent a l v t)) 12); able = go r p.able }
    where
      go : (r : Result PlanAnswer Refusal) → IfOk r (LayoutAble a l) → IfOk r (Able a l t)
      go (Ok q) e = record { layout = e; spare = omega (arith, admitted.room.spare) }
      go (Err r) e = tt
