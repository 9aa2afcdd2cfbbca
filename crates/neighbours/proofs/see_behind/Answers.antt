-- `neighbours::see_behind`: each return is one step of the script.
use native.Mathlib.Omega.{arith}
use mathlib.Core.Path.{sym, ◌∙◌}
use Prim.Native.Nat.{◌+◌, ◌≤◌, ◌<◌}
use Rattle.choice.specs.Says.{says_yes, says_no}
use Rattle.std.proofs.lemmas.Result.{err_from_is_err_and}
use Rattle.slices.specs.Decode.{grains}
use Rattle.header.specs.Turned.{grains_few}
use Rattle.neighbours.specs.Beside.{free_inside, behind_busy, behind_bad, behind_idle, behind_torn, behind_listed}
use Rattle.neighbours.proofs.see_behind.Goals as goal
use Rattle.neighbours.proofs.see_behind.Goals.{In-Some}

-- a free block is there, and its end is in the arena
inside : (c : In-Some) → let s = c.args in (1 ≤ c.in-Some.t) × (s.y + c.in-Some.t < grains 8 s.a.now)
inside c = free_inside _ c.args.y c.in-Some.t c.in-Some.ensures

pub returns-then-is_busy : goal.returns-then-is_busy
returns-then-is_busy c =
    let s = c.args in record {
      answer = λ v t. behind_busy s.a.now s.lists.now v t s.y c.in_default.ensures (sym c.if-is_busy.true ∙ c.is_busy.ensures);
      block = tt;
    }

pub returns-in_default : goal.returns-in_default
returns-in_default c =
    let s = c.args in record {
      answer = λ v t. behind_bad s.a.now s.lists.now v t s.y c.in_default.ensures (sym c.if-is_busy.false ∙ c.is_busy.ensures);
      block = tt;
    }

pub overflow_add-y : goal.overflow_add-y
overflow_add-y c = omega (arith, (inside (goal.at.overflow_add-y c).In-Some).1, grains_few c.args.a.now c.well_formed.0.0)

pub is_busy-requires-2 : goal.is_busy-requires-2
is_busy-requires-2 c = (inside (goal.at.is_busy-requires-2 c).In-Some).1

pub returns-then-not-is_busy : goal.returns-then-not-is_busy
returns-then-not-is_busy c =
    let s = c.args in record {
      answer = λ v t. behind_idle s.a.now s.lists.now v t s.y c.in-Some.t c.in-Some.ensures (sym c.if-not-is_busy.true ∙ c.is_busy-2.ensures);
      block = tt;
    }

pub overflow_add-y-2 : goal.overflow_add-y-2
overflow_add-y-2 c = omega (arith, (inside (goal.at.overflow_add-y-2 c).In-Some).1, grains_few c.args.a.now c.well_formed.0.0)

pub leads-requires : goal.leads-requires
leads-requires c = ((inside (goal.at.leads-requires c).In-Some).1, omega arith, c.requires.0)

pub returns-then-not-leads : goal.returns-then-not-leads
returns-then-not-leads c =
    let s = c.args in record {
      answer = λ v t. behind_torn s.a.now s.lists.now v t s.y c.in-Some.t c.in-Some.ensures (sym c.if-not-is_busy.false ∙ c.is_busy-2.ensures)
          (says_no _ c.leads.result c.leads.ensures c.if-not-leads.true);
      block = tt;
    }

pub see_listed-requires : goal.see_listed-requires
see_listed-requires c =
    let i = inside (goal.at.see_listed-requires c).In-Some in
    (c.requires.0, c.requires.1, i.0, omega (arith, i.1))

pub returns-in_err-e : goal.returns-in_err-e
returns-in_err-e c =
    let s = c.args in
    let p = err_from_is_err_and c.from_residual.result c.from_residual.ensures.1 in
    rw (p.1, p.2) (record {
      answer = λ v t. behind_listed s.a.now s.lists.now v t s.y c.in-Some.t c.in-Some.ensures (sym c.if-not-is_busy.false ∙ c.is_busy-2.ensures)
          (says_yes _ c.leads.result c.leads.ensures c.if-not-leads.false) (c.in_err-e.ensures.answer v t);
      block = tt;
    })

pub returns : goal.returns
returns c =
    let s = c.args in record {
      answer = λ v t. behind_listed s.a.now s.lists.now v t s.y c.in-Some.t c.in-Some.ensures (sym c.if-not-is_busy.false ∙ c.is_busy-2.ensures)
          (says_yes _ c.leads.result c.leads.ensures c.if-not-leads.false) (c.in_ok-e.ensures.answer v t);
      block = c.in_ok-e.ensures.block.1;
    }
