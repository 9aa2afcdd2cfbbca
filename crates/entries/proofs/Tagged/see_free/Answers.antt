-- `entries::Tagged::see_free`: each return says of one step of the check that it is not passed, and the last of all that they are.
use Prim.Native.Nat.{ℕ, ◌/◌, ◌≤◌, ◌<◌}
use mathlib.Core.Path.{◌≡◌, refl, ap, sym, ◌∙◌, subst}
use native.Mathlib.Omega.{arith}
use Rattle.choice.specs.Says.{says_yes, says_no}
use Rattle.machine.specs.Machine.{piece}
use Rattle.tags.specs.Tag.{flags}
use Rattle.tags.specs.Decode.{Busy}
use Rattle.lent.specs.Slices.{tag_of}
use Rattle.lent.proofs.TagWords.{count_fits}
use Rattle.lent.proofs.Shown.{grains_below}
use Rattle.entries.specs.Agrees.{entry_tag, FreeStart, FreeEnd, Begins}
use Rattle.entries.specs.Seen.{whole_seen}
use Rattle.entries.proofs.Tagged.see_free.Goals as goal
use Rattle.entries.proofs.Tagged.see_free.Goals.{After-count-s}

-- the count is that of the tag
sized : (c : After-count-s) → let s = c.args in c.count-s.result ≡ entry_tag s.self.now.tags.now s.x / flags
sized c = c.count-s.ensures ∙ ap (λ (v : ℕ). tag_of v / flags) c.tag-first.ensures

-- a free block starts at x
begun : (c : After-count-s) → let s = c.args in Begins s.self.now.arena.now s.self.now.tags.now s.x
begun c = (
  omega (arith, c.if-n-x.false, c.grain_count-n.ensures),
  subst (λ (v : ℕ). FreeStart (tag_of v)) c.tag-first.ensures (says_yes _ c.starts_free.result c.starts_free.ensures c.if-not-starts_free.false),
)

-- and has some grains
some : (c : After-count-s) → 1 ≤ c.count-s.result
some c =
    let sized : let s = c.args in c.count-s.result ≡ entry_tag s.self.now.tags.now s.x / flags = c.count-s.ensures ∙ ap (λ (v : ℕ). tag_of v / flags) c.tag-first.ensures in
    let begun : let s = c.args in Begins s.self.now.arena.now s.self.now.tags.now s.x = (omega (arith, c.if-n-x.false, c.grain_count-n.ensures), subst (λ (v : ℕ). FreeStart (tag_of v)) c.tag-first.ensures (says_yes _ c.starts_free.result c.starts_free.ensures c.if-not-starts_free.false)) in omega (arith, sized, (begun).1.1)

-- fewer than a piece
few : (c : After-count-s) → c.count-s.result < piece
few c = omega (arith, c.count-s.ensures, count_fits c.tag-first.result (omega arith))

pub returns-then-n-x-clause-seen : goal.returns-then-n-x-clause-seen
returns-then-n-x-clause-seen c l g =
    let s = c.args in
    (whole_seen s.self.now.arena.now l s.self.now.tags.now g s.x _ refl).refuses (λ p. omega (arith, p.0.0, c.if-n-x.true, c.grain_count-n.ensures))

pub returns-then-not-starts_free-clause-seen : goal.returns-then-not-starts_free-clause-seen
returns-then-not-starts_free-clause-seen c l g =
    let s = c.args in
    (whole_seen s.self.now.arena.now l s.self.now.tags.now g s.x _ refl).refuses
    (λ p. says_no _ c.starts_free.result c.starts_free.ensures c.if-not-starts_free.true (subst (λ (v : ℕ). FreeStart (tag_of v)) (sym c.tag-first.ensures) p.0.1))

pub overflow_add-y : goal.overflow_add-y
overflow_add-y c =
    omega (arith, few (goal.at.overflow_add-y c).After-count-s, c.if-n-x.false, c.grain_count-n.ensures, grains_below c.args.self.now.arena.now c.args.self.now.sized)

pub returns-then-n-y-clause-seen : goal.returns-then-n-y-clause-seen
returns-then-n-y-clause-seen c l g =
    let s = c.args in
    (whole_seen s.self.now.arena.now l s.self.now.tags.now g s.x _ (sized (goal.at.returns-then-n-y-clause-seen c).After-count-s)).refuses (λ p. omega (arith, p.1.0, c.if-n-y.true, c.grain_count-n.ensures))

pub ends_free-requires : goal.ends_free-requires
ends_free-requires c = few (goal.at.ends_free-requires c).After-count-s

pub returns-then-not-ends_free-clause-seen : goal.returns-then-not-ends_free-clause-seen
returns-then-not-ends_free-clause-seen c l g =
    let s = c.args in
    (whole_seen s.self.now.arena.now l s.self.now.tags.now g s.x _ (sized (goal.at.returns-then-not-ends_free-clause-seen c).After-count-s)).refuses
    (λ p. says_no _ c.ends_free.result c.ends_free.ensures c.if-not-ends_free.true (subst (λ (v : ℕ). FreeEnd (tag_of v) c.count-s.result) (sym c.tag.ensures) p.1.1.0))

pub returns-then-not-is_busy-clause-seen : goal.returns-then-not-is_busy-clause-seen
returns-then-not-is_busy-clause-seen c l g =
    let s = c.args in
    (whole_seen s.self.now.arena.now l s.self.now.tags.now g s.x _ (sized (goal.at.returns-then-not-is_busy-clause-seen c).After-count-s)).refuses
    (λ p. says_no _ c.is_busy.result c.is_busy.ensures c.if-not-is_busy.true (subst (λ (v : ℕ). Busy (tag_of v)) (sym c.tag-2.ensures) p.1.1.1))

pub returns-clause-seen : goal.returns-clause-seen
returns-clause-seen c l g =
    let s = c.args in
    (whole_seen s.self.now.arena.now l s.self.now.tags.now g s.x _ (sized (goal.at.returns-clause-seen c).After-count-s)).gives (
      begun (goal.at.returns-clause-seen c).After-count-s,
      (
        omega (arith, c.if-n-y.false, c.grain_count-n.ensures),
        (
          subst (λ (v : ℕ). FreeEnd (tag_of v) c.count-s.result) c.tag.ensures (says_yes _ c.ends_free.result c.ends_free.ensures c.if-not-ends_free.false),
          subst (λ (v : ℕ). Busy (tag_of v)) c.tag-2.ensures (says_yes _ c.is_busy.result c.is_busy.ensures c.if-not-is_busy.false),
        ),
      ),
    )

pub returns-clause-counted : goal.returns-clause-counted
returns-clause-counted c = (some (goal.at.returns-clause-counted c).After-count-s, few (goal.at.returns-clause-counted c).After-count-s)
