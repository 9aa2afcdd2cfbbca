-- `region::admit_beside` meets its contract: each return is one law of what the look found. Assumes nothing.
use native.Mathlib.Omega.{arith}
use mathlib.Core.Path.{refl}
use Rattle.std.specs.Prelude.{Bool, true, false, ◌≡◌}
use Rattle.std.specs.Int.{from_bool}
use Rattle.std.proofs.lemmas.Result.{err_from_is_err_and}
use Rattle.region.specs.Look.{bit}
use Rattle.region.specs.Admit.{beside_overlap, beside_apart, beside_wrong, beside_clear}
use Rattle.region.proofs.admit_beside.Goals as goal

-- a yes or no is counted as the script counts it
counted : (b : Bool) → from_bool b ≡ bit b
counted true = refl
counted false = refl

pub returns-in_err-found : goal.returns-in_err-found
returns-in_err-found c =
    let s = c.args in
    let p = err_from_is_err_and c.from_residual.result c.from_residual.ensures.1 in
    rw (p.1, p.2) (beside_overlap s.regions.now s.n s.g s.len c.number.result c.number.ensures _ c.in_err-found.field-0.0 c.in_err-found.ensures)

pub returns-then-from-behind : goal.returns-then-from-behind
returns-then-from-behind c =
    let s = c.args in
    beside_apart s.regions.now s.n s.g s.len c.number.result c.number.ensures s.behind c.in_ok-found.found c.in_ok-found.ensures
    (omega (arith, counted c.in_ok-found.found.meets, c.from.ensures, c.if-from-behind.true))

pub returns-then-found : goal.returns-then-found
returns-then-found c =
    let s = c.args in
    beside_wrong s.regions.now s.n s.g s.len c.number.result c.number.ensures s.behind c.in_ok-found.found c.in_ok-found.ensures
    (omega (arith, counted c.in_ok-found.found.meets, c.from.ensures, c.if-from-behind.false)) c.if-found.true

pub returns : goal.returns
returns c =
    let s = c.args in
    beside_clear s.regions.now s.n s.g s.len c.number.result c.number.ensures s.behind c.in_ok-found.found c.in_ok-found.ensures
    (omega (arith, counted c.in_ok-found.found.meets, c.from.ensures, c.if-from-behind.false)) c.if-found.false
