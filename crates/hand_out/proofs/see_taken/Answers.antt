-- `hand_out::see_taken`: each return is where the script ends.
use native.Mathlib.Omega.{arith}
use mathlib.Core.List.{[]}
use mathlib.Core.Path.{◌≡◌, ap, ◌∙◌}
use Prim.Native.Nat.{◌+◌, ◌-◌, ◌/◌, ◌<◌}
use Rattle.std.proofs.lemmas.Result.{err_from_is_err_and}
use Rattle.refusal.specs.Number.{number}
use Rattle.align.proofs.Align.{power_pos}
use Rattle.class.specs.Class.{start_of}
use Rattle.class.proofs.Class.{start_small}
use Rattle.definition.specs.Calls.{wanted}
use Rattle.invariants.proofs.Placing.{wanted_counted}
use Rattle.machine.specs.Machine.{classes}
use Rattle.machine.specs.Machine.{lists as list_count}
use Rattle.hand_out.specs.First.{first_holds}
use Rattle.hand_out.specs.Search.{found, search_large, search_none, search_bad, search_cut, found_enough}
use Rattle.hand_out.proofs.see_taken.Goals as goal
use Rattle.hand_out.proofs.see_taken.Goals.{In-Some, Start}

-- the alignment is some, and what is wanted is counted right
some : (c : Start) → 0 < c.args.asked.multiple
some c = power_pos c.args.asked.multiple c.args.asked.power

counted : (c : Start) → (c.args.asked.length + c.args.asked.multiple - 1) / 2 + 1 ≡ wanted c.args.asked.length c.args.asked.multiple
counted c =
    wanted_counted c.args.asked.length c.args.asked.multiple (power_pos c.args.asked.multiple c.args.asked.power)

-- the list that was found is the first from there on
listed : (c : In-Some) → c.in-Some.list ≡ found c.args.heap.now.lists.now (start_of (wanted c.args.asked.length c.args.asked.multiple))
listed c =
    c.in-Some.ensures.0 ∙ ap (found c.args.heap.now.lists.now) (c.map_ceil.ensures ∙ ap start_of (wanted_counted c.args.asked.length c.args.asked.multiple (power_pos c.args.asked.multiple c.args.asked.power)))

pub returns-then-wanted-ge-PIECE : goal.returns-then-wanted-ge-PIECE
returns-then-wanted-ge-PIECE c g =
    let h = c.args.heap.now in
    search_large h.tagged.arena.now h.lists.now h.tagged.tags.now g c.args.asked.length c.args.asked.multiple (some (goal.at.returns-then-wanted-ge-PIECE c).Start) (omega (arith, counted (goal.at.returns-then-wanted-ge-PIECE c).Start, c.if-wanted-ge-PIECE.true))

pub first_marked-requires : goal.first_marked-requires
first_marked-requires c =
    (omega (arith, c.args.heap.now.listed), omega (arith, c.map_ceil.ensures, start_small _ (omega arith) classes c.if-wanted-ge-PIECE.false))

pub returns-in_default : goal.returns-in_default
returns-in_default c g =
    let h = c.args.heap.now in
    search_none h.tagged.arena.now h.lists.now h.tagged.tags.now g c.args.asked.length c.args.asked.multiple list_count
    (c.in_default.ensures.0 ∙ ap (found h.lists.now) (c.map_ceil.ensures ∙ ap start_of (counted (goal.at.returns-in_default c).Start))) (omega arith)

pub returns-in_err-grains : goal.returns-in_err-grains
returns-in_err-grains c g =
    let h = c.args.heap.now in
    let p = err_from_is_err_and c.from_residual.result c.from_residual.ensures.1 in
    rw (p.1, p.2) (search_bad h.tagged.arena.now h.lists.now h.tagged.tags.now g c.args.asked.length c.args.asked.multiple c.in-Some.list (listed (goal.at.returns-in_err-grains c).In-Some) c.in-Some.ensures.1 c.head-block.result c.head-block.ensures
    (number c.in_err-grains.field-0.0) (c.in_err-grains.ensures h.lists.now g))

pub see_cut-requires : goal.see_cut-requires
see_cut-requires c =
    let h = c.args.heap.now in
    let i = first_holds h.tagged.arena.now [] h.tagged.tags.now [] c.in-Some.list c.head-block.result c.in_ok-grains.grains (c.in_ok-grains.ensures [] []) in (
      i.0,
      i.1,
      found_enough h.lists.now c.args.asked.length c.args.asked.multiple c.in-Some.list c.head-block.result c.in_ok-grains.grains (some (goal.at.see_cut-requires c).Start) i.1 (listed (goal.at.see_cut-requires c).In-Some) i.2,
    )

pub returns : goal.returns
returns c g =
    let h = c.args.heap.now in
    search_cut h.tagged.arena.now h.lists.now h.tagged.tags.now g c.args.asked.length c.args.asked.multiple c.in-Some.list (listed (goal.at.returns c).In-Some) c.in-Some.ensures.1 c.head-block.result c.head-block.ensures
    c.in_ok-grains.grains (c.in_ok-grains.ensures h.lists.now g)
    ∙ c.see_cut.ensures g
