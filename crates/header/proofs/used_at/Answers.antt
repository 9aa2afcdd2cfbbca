-- `header::used_at`: each return is one test of the size word.
use native.Mathlib.Omega.{arith}
use mathlib.Core.Path.{ap, sym, ◌∙◌}
use Rattle.std.specs.Prelude.{Some}
use Rattle.header.specs.Turned.{grains_few}
use Rattle.header.specs.Told.{used_of, told_used, not_used, told_none, says}
use Rattle.header.proofs.used_at.Goals as goal

pub returns-then-word-le1 : goal.returns-then-word-le1
returns-then-word-le1 c =
    let v = c.field-word.result in
    says c.args.a.now c.args.g v c.requires c.field-word.ensures used_of (ap used_of (told_none _ _ v (omega (arith, c.if-word-le1.true))))

pub returns-then-count-g : goal.returns-then-count-g
returns-then-count-g c =
    let z = c.if-word-le1.false in
    says c.args.a.now c.args.g c.field-word.result c.requires c.field-word.ensures used_of (not_used _ _ _ c.requires z (rw (c.count.ensures, c.grain_of-used.ensures) at c.if-count-g.true))

pub returns : goal.returns
returns c =
    let z = c.if-word-le1.false in
    let few = grains_few c.args.a.now c.well_formed.0.0 in
    says c.args.a.now c.args.g c.field-word.result c.requires c.field-word.ensures used_of
    (told_used _ _ _ c.requires few z (rw (c.count.ensures, c.grain_of-used.ensures) at c.if-count-g.false) ∙ ap Some (sym c.grain_of-used.ensures))
