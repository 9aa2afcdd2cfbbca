-- `entries::Lent::see_join`: each return is one step of the script.
use Prim.Native.Nat.{ℕ}
use mathlib.Core.Path.{ap, sym, ◌∙◌}
use Rattle.script.specs.Script.{run}
use Rattle.plans.specs.Checks.{see_head}
use Rattle.lent.specs.Slices.{grains}
use Rattle.entries.specs.Answers.{held}
use Rattle.entries.specs.Sizes.{join_long, join_head_lem}
use Rattle.entries.proofs.Lent.see_join.Goals as goal

pub returns-then-t-ge-PIECE : goal.returns-then-t-ge-PIECE
returns-then-t-ge-PIECE c g =
    join_long (held c.args.self.now.tagged.arena.now c.args.self.now.lists.now c.args.self.now.tagged.tags.now g) (grains c.args.self.now.tagged.arena.now) c.args.t c.requires.0 c.if-t-ge-PIECE.true

pub returns : goal.returns
returns c g =
    let m = held c.args.self.now.tagged.arena.now c.args.self.now.lists.now c.args.self.now.tagged.tags.now g in
    let n = grains c.args.self.now.tagged.arena.now in
    join_head_lem m n c.args.t c.requires.0 c.if-t-ge-PIECE.false ∙ ap (λ (j : ℕ). run m (see_head n j)) (sym c.list_of.ensures.0) ∙ c.see_head.ensures g
