-- `entries::Lent::see_head`: two returns say of the head that it can't be one, and the last that it can.
use Prim.Native.Nat.{ℕ}
use mathlib.Core.Path.{◌≡◌}
use mathlib.Core.Bool.{Bool, true, false}
use mathlib.Core.List.{List}
use native.Mathlib.Omega.{arith}
use Rattle.choice.specs.Says.{Says}
use Rattle.script.specs.Script.{run}
use Rattle.plans.specs.Checks.{see_head}
use Rattle.lent.specs.Slices.{grains}
use Rattle.entries.specs.Answers.{held, verdict}
use Rattle.entries.specs.Agrees.{Heads}
use Rattle.entries.specs.Seen.{head_seen}
use Rattle.entries.specs.Heads.{heads_outside, heads_refused, heads_there}
use Rattle.entries.proofs.Lent.see_head.Goals as goal
use Rattle.entries.proofs.Lent.see_head.Goals.{After-choose-first}

-- the answer is what the head says
headed : (c : After-choose-first) → (r : Bool) → let s = c.args in
    Says (Heads s.self.now.tagged.arena.now s.self.now.tagged.tags.now c.is_marked-marked.result c.head-head.result) r
    → (g : List ℕ) → run (held s.self.now.tagged.arena.now s.self.now.lists.now s.self.now.tagged.tags.now g) (see_head (grains s.self.now.tagged.arena.now) s.k) ≡ verdict r
headed c r w g =
    let s = c.args in
    head_seen s.self.now.tagged.arena.now s.self.now.lists.now s.self.now.tagged.tags.now g s.k c.head-head.result c.head-head.ensures c.is_marked-marked.result c.is_marked-marked.ensures r w

pub returns-then-n-first : goal.returns-then-n-first
returns-then-n-first c =
    headed (goal.at.returns-then-n-first c).After-choose-first false
    (heads_outside c.args.self.now.tagged.arena.now c.args.self.now.tagged.tags.now c.args.y c.head-head.result c.choose-first.result c.requires.1 c.is_marked-marked.result c.choose-first.ensures
    (omega (arith, c.grain_count-n.ensures, c.if-n-first.true)))

pub returns-then-choose : goal.returns-then-choose
returns-then-choose c =
    headed (goal.at.returns-then-choose c).After-choose-first false
    (heads_refused c.args.self.now.tagged.arena.now c.args.self.now.tagged.tags.now c.args.y c.head-head.result c.choose-first.result c.requires.1
    c.tag.result c.grain_count-n.result c.prev-back.result c.prev-own.result c.choose.result c.choose-2.result c.choose-3.result
    c.tag.ensures c.grain_count-n.ensures c.prev-back.ensures c.prev-own.ensures
    c.is_marked-marked.result c.starts_free-free.result c.starts_free-free.ensures c.choose-first.ensures c.choose.ensures c.choose-2.ensures c.choose-3.ensures c.if-choose.true)

pub returns : goal.returns
returns c =
    headed (goal.at.returns c).After-choose-first true
    (heads_there c.args.self.now.tagged.arena.now c.args.self.now.tagged.tags.now c.args.y c.head-head.result c.choose-first.result c.requires.1
    c.tag.result c.grain_count-n.result c.prev-back.result c.prev-own.result c.choose.result c.choose-2.result c.choose-3.result
    c.tag.ensures c.grain_count-n.ensures c.prev-back.ensures c.prev-own.ensures
    c.if-n-first.false c.is_marked-marked.result c.starts_free-free.result c.starts_free-free.ensures c.choose-first.ensures c.choose.ensures c.choose-2.ensures c.choose-3.ensures c.if-choose.false)
