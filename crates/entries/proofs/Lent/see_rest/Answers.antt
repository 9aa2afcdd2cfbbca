-- `entries::Lent::see_rest`: each return is one step of the script.
use Prim.Native.Nat.{ℕ}
use mathlib.Core.Path.{ap, sym, ◌∙◌}
use Rattle.script.specs.Script.{run}
use Rattle.plans.specs.Checks.{see_head}
use Rattle.lent.specs.Slices.{grains}
use Rattle.entries.specs.Answers.{held}
use Rattle.entries.specs.Sizes.{rest_long, rest_none, rest_some}
use Rattle.entries.proofs.Lent.see_rest.Goals as goal

pub returns-then-t-ge-PIECE : goal.returns-then-t-ge-PIECE
returns-then-t-ge-PIECE c g =
    rest_long (held c.args.self.now.tagged.arena.now c.args.self.now.lists.now c.args.self.now.tagged.tags.now g) (grains c.args.self.now.tagged.arena.now) c.args.t c.requires.0 c.args.k c.if-t-ge-PIECE.true

pub returns-then-k-t : goal.returns-then-k-t
returns-then-k-t c g =
    rest_none (held c.args.self.now.tagged.arena.now c.args.self.now.lists.now c.args.self.now.tagged.tags.now g) (grains c.args.self.now.tagged.arena.now) c.args.t c.requires.0 c.args.k c.if-t-ge-PIECE.false c.if-k-t.true

pub returns : goal.returns
returns c g =
    let m = held c.args.self.now.tagged.arena.now c.args.self.now.lists.now c.args.self.now.tagged.tags.now g in
    let n = grains c.args.self.now.tagged.arena.now in
    rest_some m n c.args.t c.requires.0 c.args.k c.if-t-ge-PIECE.false c.if-k-t.false ∙ ap (λ (j : ℕ). run m (see_head n j)) (sym c.list_of.ensures.0) ∙ c.see_head.ensures g
