-- `header::free_at`: each return is one test of the size word.
use native.Mathlib.Omega.{arith}
use mathlib.Core.Path.{ap, sym, ◌∙◌}
use Rattle.std.specs.Prelude.{Some}
use Rattle.header.specs.Turned.{grains_few}
use Rattle.header.specs.Told.{free_of, told_free, not_free, told_none, says}
use Rattle.header.proofs.free_at.Goals as goal

pub returns-then-v-eq0 : goal.returns-then-v-eq0
returns-then-v-eq0 c =
    let v = c.field-v.result in
    says c.args.a.now c.args.g v c.requires c.field-v.ensures free_of (ap free_of (told_none _ _ v (omega (arith, c.if-v-eq0.true))))

pub returns-then-count-g : goal.returns-then-count-g
returns-then-count-g c =
    says c.args.a.now c.args.g c.field-v.result c.requires c.field-v.ensures free_of (not_free _ _ _ c.requires (rw (c.count.ensures, c.grain_of-free.ensures) at c.if-count-g.true))

pub returns : goal.returns
returns c =
    let few = grains_few c.args.a.now c.well_formed.0.0 in
    let z = c.if-v-eq0.false in
    says c.args.a.now c.args.g c.field-v.result c.requires c.field-v.ensures free_of
    (ap free_of (told_free _ _ _ c.requires few z (rw (c.count.ensures, c.grain_of-free.ensures) at c.if-count-g.false)) ∙ ap Some (sym c.grain_of-free.ensures))
