-- `free_list::see_entry`: each return is one law of an entry that is seen.
use mathlib.Core.Path.{sym}
use Rattle.free_list.specs.Seen.{entry_next_out, entry_mark_out, entry_misplaced, entry_placed}
use Rattle.free_list.proofs.see_entry.Goals as goal

pub returns-then-not-leads_back : goal.returns-then-not-leads_back
returns-then-not-leads_back c = (
  entry_next_out c.args.a.now c.args.lists.now c.args.k c.args.y c.field-next.result c.field-prev.result 0 c.well_formed.0.0 c.requires.0 c.requires.1.known c.field-next.ensures c.field-prev.ensures
      c.if-not-leads_back.ensures,
  tt,
)

pub returns-then-not-is_marked : goal.returns-then-not-is_marked
returns-then-not-is_marked c = (
  entry_mark_out c.args.a.now c.args.lists.now c.args.k c.args.y c.field-next.result c.field-prev.result 0 c.well_formed.0.0 c.requires.0 c.requires.1.known c.field-next.ensures c.field-prev.ensures
      c.if-not-leads_back.ensures c.if-not-is_marked.ensures,
  tt,
)

pub returns-then-not-stands_behind : goal.returns-then-not-stands_behind
returns-then-not-stands_behind c = (
  entry_misplaced c.args.a.now c.args.lists.now c.args.k c.args.y c.field-next.result c.field-prev.result c.head_of.result c.well_formed.0.0 c.requires.0 c.requires.1.known c.field-next.ensures c.field-prev.ensures
      c.if-not-leads_back.ensures c.if-not-is_marked.ensures c.head_of.ensures c.if-not-stands_behind.ensures,
  tt,
)

pub returns : goal.returns
returns c = (
  entry_placed c.args.a.now c.args.lists.now c.args.k c.args.y c.field-next.result c.field-prev.result c.head_of.result c.well_formed.0.0 c.requires.0 c.requires.1.known c.field-next.ensures c.field-prev.ensures
      c.if-not-leads_back.ensures c.if-not-is_marked.ensures c.head_of.ensures c.if-not-stands_behind.ensures,
  (sym c.field-next.ensures, sym c.field-prev.ensures),
)
