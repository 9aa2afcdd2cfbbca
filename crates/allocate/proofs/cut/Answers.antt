-- `allocate::cut`: the payload's place and what the block keeps, then the rest and what is next, whose answers decide.
use Rattle.std.proofs.lemmas.Result.{err_from_is_err_and}
use Rattle.align.proofs.Align.{power_pos}
use Rattle.allocate.specs.Plan.{cut_damaged, cut_astray, cut_made}
use Rattle.allocate.proofs.cut.Goals as goal

pub returns-in_err-rest : goal.returns-in_err-rest
returns-in_err-rest c =
    let p = err_from_is_err_and c.from_residual.result c.from_residual.ensures.1 in
    rw (p.1, p.2) (cut_damaged c.args.a.now c.args.lists.now c.args.list c.args.first c.args.length c.args.multiple c.place_of-place.result c.keeps_of-keep.result c.place_of-place.ensures c.keeps_of-keep.ensures
    c.in_err-rest.field-0.0 c.in_err-rest.ensures)

pub returns-then-not-leads_back : goal.returns-then-not-leads_back
returns-then-not-leads_back c =
    cut_astray c.args.a.now c.args.lists.now c.args.list c.args.first c.args.length c.args.multiple c.place_of-place.result c.keeps_of-keep.result c.place_of-place.ensures c.keeps_of-keep.ensures
    c.well_formed.0.0 c.if-not-leads_back.ensures

pub returns : goal.returns
returns c =
    cut_made c.args.a.now c.args.lists.now c.args.list c.args.first c.args.length c.args.multiple c.place_of-place.result c.keeps_of-keep.result c.place_of-place.ensures c.keeps_of-keep.ensures
    c.well_formed.0.0 c.in_ok-rest.rest (power_pos c.args.multiple c.requires.0.power) c.requires.1 c.if-not-leads_back.ensures c.requires.2.holds c.requires.2.inside c.requires.3 c.in_ok-rest.ensures
