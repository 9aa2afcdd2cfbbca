-- `allocate::see_first`: each return is one law of a list's first block.
use native.Mathlib.Omega.{arith}
use mathlib.Core.Path.{sym, ◌∙◌}
use Rattle.allocate.specs.First.{first_outside, first_busy, first_elsewhere, first_preceded, first_unbounded, first_seen}
use Rattle.allocate.proofs.see_first.Goals as goal

pub returns-then-count-at : goal.returns-then-count-at
returns-then-count-at c =
    (first_outside c.args.a.now c.args.lists.now c.args.k c.fetch.result c.grain_of-at.result c.well_formed.0.0 c.requires.known c.fetch.ensures c.grain_of-at.ensures (omega arith), tt)

pub returns-in_default : goal.returns-in_default
returns-in_default c =
    (first_busy c.args.a.now c.args.lists.now c.args.k c.fetch.result c.grain_of-at.result c.well_formed.0.0 c.requires.known c.fetch.ensures c.grain_of-at.ensures (omega arith) c.in_default.ensures, tt)

pub returns-then-map_floor-k : goal.returns-then-map_floor-k
returns-then-map_floor-k c = (
  first_elsewhere c.args.a.now c.args.lists.now c.args.k c.fetch.result c.grain_of-at.result c.well_formed.0.0 c.requires.known c.fetch.ensures c.grain_of-at.ensures (omega arith) c.in-Some.grains c.in-Some.ensures
      (λ z. c.if-map_floor-k.true (c.map_floor.ensures ∙ z)),
  tt,
)

pub returns-then-field : goal.returns-then-field
returns-then-field c = (
  first_preceded c.args.a.now c.args.lists.now c.args.k c.fetch.result c.grain_of-at.result c.well_formed.0.0 c.requires.known c.fetch.ensures c.grain_of-at.ensures (omega arith) c.in-Some.grains c.in-Some.ensures
      (sym c.map_floor.ensures ∙ c.if-map_floor-k.false) (λ z. c.if-field.true (c.field.ensures ∙ z)),
  tt,
)

pub returns-then-not-is_bounded : goal.returns-then-not-is_bounded
returns-then-not-is_bounded c = (
  first_unbounded c.args.a.now c.args.lists.now c.args.k c.fetch.result c.grain_of-at.result c.well_formed.0.0 c.requires.known c.fetch.ensures c.grain_of-at.ensures (omega arith) c.in-Some.grains c.in-Some.ensures
      (sym c.map_floor.ensures ∙ c.if-map_floor-k.false) (sym c.field.ensures ∙ c.if-field.false) c.field-next.result c.field-next.ensures c.if-not-is_bounded.ensures,
  tt,
)

pub returns : goal.returns
returns c =
    first_seen c.args.a.now c.args.lists.now c.args.k c.fetch.result c.grain_of-at.result c.well_formed.0.0 c.requires.known c.fetch.ensures c.grain_of-at.ensures (omega arith) c.in-Some.grains c.in-Some.ensures
    (sym c.map_floor.ensures ∙ c.if-map_floor-k.false) (sym c.field.ensures ∙ c.if-field.false) c.field-next.result c.field-next.ensures c.if-not-is_bounded.ensures
