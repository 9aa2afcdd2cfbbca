-- `firmheap::lay`: tables, then the plan's refusal, or what was planned is stored.
use native.Mathlib.Omega.{arith}
use Rattle.std.proofs.lemmas.Result.{err_from_is_err_and}
use Rattle.region.specs.Admit.{asked}
use Rattle.firmheap.specs.Give.{lay_short, lay_refused, lay_done}
use Rattle.firmheap.proofs.lay.Goals as goal

pub returns-then-lists-lists_length : goal.returns-then-lists-lists_length
returns-then-lists-lists_length c =
    let s = c.args in
    lay_short _ _ _ (asked s.place) s.g s.len (λ e. omega (arith, c.lists_length.ensures, c.if-lists-lists_length.true, e.0))

pub returns-then-regions-eq0 : goal.returns-then-regions-eq0
returns-then-regions-eq0 c =
    let s = c.args in
    lay_short _ _ _ (asked s.place) s.g s.len (λ e. omega (arith, c.if-regions-eq0.true, e.1))

pub returns-in_err-p : goal.returns-in_err-p
returns-in_err-p c =
    let s = c.args in
    let p = err_from_is_err_and c.from_residual.result c.from_residual.ensures.1 in
    rw (p.1, p.2) (lay_refused _ _ _ (asked s.place) s.g s.len (omega (arith, c.lists_length.ensures, c.if-lists-lists_length.false), omega (arith, c.if-regions-eq0.false))
    c.in_err-p.field-0.0 (rw c.from.ensures at c.in_err-p.ensures))

pub returns : goal.returns
returns c =
    let s = c.args in
    lay_done _ _ _ (asked s.place) s.g s.len (omega (arith, c.lists_length.ensures, c.if-lists-lists_length.false), omega (arith, c.if-regions-eq0.false))
    c.in_ok-p.p (rw c.from.ensures at c.in_ok-p.ensures) _ _ _ c.apply_region.ensures
