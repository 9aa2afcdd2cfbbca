-- `hand_out::see_first`: the block's tags contradict each other, or its links and its list decide.
use mathlib.Core.Bool.{true, false}
use mathlib.Core.List.{[]}
use mathlib.Core.Path.{refl}
use Rattle.std.proofs.lemmas.Result.{err_from_is_err_and}
use Rattle.refusal.specs.Number.{number}
use Rattle.choice.specs.Says.{says_yes, says_no}
use Rattle.lent.specs.Slices.{next_at}
use Rattle.plans.proofs.Checked.{whole_checked}
use Rattle.entries.specs.Lent.{tagged_memory, tagged_grains}
use Rattle.hand_out.specs.First.{first_bad, first_found}
use Rattle.hand_out.proofs.see_first.Goals as goal

pub returns-in_err-s : goal.returns-in_err-s
returns-in_err-s c l g =
    let h = c.args.tagged.now in
    let p = err_from_is_err_and c.from_residual.result c.from_residual.ensures.1 in
    rw (p.1, p.2) (first_bad h.arena.now l h.tags.now g c.args.k c.args.y (number c.in_err-s.field-0.0) (c.in_err-s.ensures.seen l g))

pub stands_first-requires : goal.stands_first-requires
stands_first-requires c =
    let h = c.args.tagged.now in
    ((whole_checked (tagged_memory h [] []) (tagged_grains h) c.args.y (c.in_ok-s.ensures.seen [] [])).starts.inside, c.in_ok-s.ensures.counted.0, c.in_ok-s.ensures.counted.1)

pub returns-then-not-stands_first : goal.returns-then-not-stands_first
returns-then-not-stands_first c l g =
    let h = c.args.tagged.now in
    first_found h.arena.now l h.tags.now g c.args.k c.args.y c.in_ok-s.s (c.in_ok-s.ensures.seen l g) (next_at h.arena.now c.args.y) refl false
    (says_no _ c.stands_first.result c.stands_first.ensures c.if-not-stands_first.true)

pub returns : goal.returns
returns c l g =
    let h = c.args.tagged.now in
    first_found h.arena.now l h.tags.now g c.args.k c.args.y c.in_ok-s.s (c.in_ok-s.ensures.seen l g) (next_at h.arena.now c.args.y) refl true
    (says_yes _ c.stands_first.result c.stands_first.ensures c.if-not-stands_first.false)
