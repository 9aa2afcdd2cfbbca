-- `beside::see_listed`: each return is one step of the script.
use Rattle.std.proofs.lemmas.Result.{err_from_is_err_and}
use Rattle.refusal.specs.Number.{number}
use Rattle.beside.specs.Sides.{listed_long, listed_torn, listed_seen}
use Rattle.beside.proofs.see_listed.Goals as goal

pub returns-then-s-ge-PIECE : goal.returns-then-s-ge-PIECE
returns-then-s-ge-PIECE c g =
    let h = c.args.heap.now in
    listed_long h.tagged.arena.now h.lists.now h.tagged.tags.now g c.args.y c.args.s c.requires.1 c.if-s-ge-PIECE.true

pub returns-in_err-see_entry : goal.returns-in_err-see_entry
returns-in_err-see_entry c g =
    let h = c.args.heap.now in
    let p = err_from_is_err_and c.from_residual.result c.from_residual.ensures.1 in
    rw (p.1, p.2) (listed_torn h.tagged.arena.now h.lists.now h.tagged.tags.now g c.args.y c.args.s c.requires.1 c.if-s-ge-PIECE.false c.list_of.result (number c.in_err-see_entry.field-0.0) c.list_of.ensures.0 (c.in_err-see_entry.ensures g))

pub returns : goal.returns
returns c g =
    let h = c.args.heap.now in
    listed_seen h.tagged.arena.now h.lists.now h.tagged.tags.now g c.args.y c.args.s c.requires.1 c.if-s-ge-PIECE.false c.list_of.result c.list_of.ensures.0 (c.in_ok-see_entry.ensures g)
