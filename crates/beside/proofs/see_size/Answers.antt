-- `beside::see_size`: each return says of one step of the check that it is not passed, and the last of all that they are.
use native.Mathlib.Omega.{arith}
use Rattle.lent.specs.Slices.{grains}
use Rattle.lent.proofs.Shown.{grains_below}
use Rattle.entries.specs.Answers.{held}
use Rattle.beside.specs.Owns.{owned_decides}
use Rattle.beside.proofs.see_size.Goals as goal

pub returns-then-s-lt1 : goal.returns-then-s-lt1
returns-then-s-lt1 c l t g =
    let s = c.args in
    (owned_decides (held s.a.now l t g) (grains s.a.now) s.x s.s s.p).refuses (λ h. omega (arith, h.0, c.if-s-lt1.true))

pub returns-then-s-p : goal.returns-then-s-p
returns-then-s-p c l t g =
    let s = c.args in
    (owned_decides (held s.a.now l t g) (grains s.a.now) s.x s.s s.p).refuses (λ h. omega (arith, h.1.0, c.if-s-p.true))

pub overflow_add-x : goal.overflow_add-x
overflow_add-x c =
    omega (arith, c.requires.0, c.requires.1, grains_below c.args.a.now c.well_formed.0.0)

pub returns-then-grain_count-x : goal.returns-then-grain_count-x
returns-then-grain_count-x c l t g =
    let s = c.args in
    (owned_decides (held s.a.now l t g) (grains s.a.now) s.x s.s s.p).refuses (λ h. omega (arith, h.1.1, c.if-grain_count-x.true, c.grain_count.ensures))

pub returns : goal.returns
returns c l t g =
    let s = c.args in
    (owned_decides (held s.a.now l t g) (grains s.a.now) s.x s.s s.p).gives
    (omega (arith, c.if-s-lt1.false), (c.if-s-p.false, omega (arith, c.if-grain_count-x.false, c.grain_count.ensures)))
