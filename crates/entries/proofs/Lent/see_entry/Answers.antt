-- `entries::Lent::see_entry`: each return says of one step of the check that it is not passed, and the last of all that they are.
use Prim.Native.Nat.{ℕ}
use mathlib.Core.Path.{◌≡◌, ap, sym, ◌∙◌}
use mathlib.Core.Bool.{Bool, true, false}
use mathlib.Core.List.{List}
use lib.Dec.{eqb}
use Rattle.choice.specs.Says.{Says, says_yes, says_no}
use Rattle.script.specs.Script.{run}
use Rattle.plans.specs.Checks.{see_entry}
use Rattle.lent.specs.Slices.{grains, head_at}
use Rattle.entries.specs.Answers.{held, verdict, chosen}
use Rattle.entries.specs.Agrees.{Begins, Entered}
use Rattle.entries.specs.Seen.{entry_seen}
use Rattle.entries.proofs.Lent.see_entry.Goals as goal
use Rattle.entries.proofs.Lent.see_entry.Goals.{After-choose-3, After-prev-prev, Else-not-begins_free, Else-not-begins_free-2}

-- the words of y are its next and its previous
entered : (c : After-prev-prev) → (r : Bool) → let s = c.args in
    Says (Entered s.self.now.tagged.arena.now s.self.now.lists.now s.self.now.tagged.tags.now s.k s.y c.next-next.result c.prev-prev.result) r
    → (g : List ℕ) → run (held s.self.now.tagged.arena.now s.self.now.lists.now s.self.now.tagged.tags.now g) (see_entry (grains s.self.now.tagged.arena.now) s.k s.y) ≡ verdict r
entered c r h g =
    let s = c.args in
    entry_seen s.self.now.tagged.arena.now s.self.now.lists.now s.self.now.tagged.tags.now g s.k s.y c.next-next.result c.prev-prev.result c.next-next.ensures c.prev-prev.ensures r h

-- a free block starts at its next
next-begins : (c : Else-not-begins_free) → let s = c.args in Begins s.self.now.tagged.arena.now s.self.now.tagged.tags.now c.next-next.result
next-begins c = says_yes _ c.begins_free.result c.begins_free.ensures c.if-not-begins_free.false

-- and at its previous
prev-begins : (c : Else-not-begins_free-2) → let s = c.args in Begins s.self.now.tagged.arena.now s.self.now.tagged.tags.now c.prev-prev.result
prev-begins c = says_yes _ c.begins_free-2.result c.begins_free-2.ensures c.if-not-begins_free-2.false

-- whether y is the head
placed : (c : After-choose-3) → let s = c.args in
    c.choose-3.result ≡ chosen (eqb (head_at s.self.now.lists.now s.k) s.y) 1 0
placed c =
    let s = c.args in
    c.choose-3.ensures ∙ ap (λ (h : ℕ). chosen (eqb h s.y) 1 0) c.head.ensures

pub returns-then-not-begins_free : goal.returns-then-not-begins_free
returns-then-not-begins_free c =
    entered (goal.at.returns-then-not-begins_free c).After-prev-prev false (λ p. says_no _ c.begins_free.result c.begins_free.ensures c.if-not-begins_free.true p.0)

pub returns-then-prev-choose : goal.returns-then-prev-choose
returns-then-prev-choose c =
    entered (goal.at.returns-then-prev-choose c).After-prev-prev false (λ p. c.if-prev-choose.true (c.prev.ensures ∙ p.1.0 ∙ sym c.choose.ensures))

pub returns-then-not-begins_free-2 : goal.returns-then-not-begins_free-2
returns-then-not-begins_free-2 c =
    entered (goal.at.returns-then-not-begins_free-2 c).After-prev-prev false (λ p. says_no _ c.begins_free-2.result c.begins_free-2.ensures c.if-not-begins_free-2.true p.1.1.0)

pub returns-then-next-choose : goal.returns-then-next-choose
returns-then-next-choose c =
    entered (goal.at.returns-then-next-choose c).After-prev-prev false (λ p. c.if-next-choose.true (c.next.ensures ∙ p.1.1.1.0 ∙ sym c.choose-2.ensures))

pub returns-then-not-is_marked : goal.returns-then-not-is_marked
returns-then-not-is_marked c =
    entered (goal.at.returns-then-not-is_marked c).After-prev-prev false
    (λ p. says_no _ c.is_marked.result c.is_marked.ensures c.if-not-is_marked.true p.1.1.1.1.0)

pub returns-then-choose : goal.returns-then-choose
returns-then-choose c =
    entered (goal.at.returns-then-choose c).After-prev-prev false
    (λ p. c.if-choose.true (placed (goal.at.returns-then-choose c).After-choose-3 ∙ p.1.1.1.1.1 ∙ sym c.choose-4.ensures))

pub returns : goal.returns
returns c =
    entered (goal.at.returns c).After-prev-prev true (
      next-begins (goal.at.returns c).Else-not-begins_free,
      (
        sym c.prev.ensures ∙ c.if-prev-choose.false ∙ c.choose.ensures,
        (
          prev-begins (goal.at.returns c).Else-not-begins_free-2,
          (
            sym c.next.ensures ∙ c.if-next-choose.false ∙ c.choose-2.ensures,
            (
              says_yes _ c.is_marked.result c.is_marked.ensures c.if-not-is_marked.false,
              sym (placed (goal.at.returns c).After-choose-3) ∙ c.if-choose.false ∙ c.choose-4.ensures,
            ),
          ),
        ),
      ),
    )
