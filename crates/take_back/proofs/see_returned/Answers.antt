-- `take_back::see_returned`: each return is where the script ends.
use Prim.Native.Nat.{ℕ, ◌+◌, ◌-◌, ◌*◌, ◌≤◌, ◌<◌}
use native.Mathlib.Omega.{arith}
use mathlib.Core.List.{List, []}
use mathlib.Core.Path.{◌≡◌, ◌∙◌}
use Rattle.std.proofs.lemmas.Result.{err_from_is_err_and}
use Rattle.refusal.specs.Number.{number}
use Rattle.script.specs.Script.{run}
use Rattle.machine.specs.Machine.{classes}
use Rattle.lent.proofs.Shown.{grains_below}
use Rattle.entries.specs.Lent.{memory_in, grains_in}
use Rattle.beside.specs.Holds.{owner_holds, after_holds, before_holds}
use Rattle.take_back.specs.Returned.{joined, sides, see_returned}
use Rattle.take_back.specs.Sees.{owner_refused, owner_found, guard_bad, after_bad, after_found, before_bad, join_bad, join_found}
use Rattle.take_back.proofs.see_returned.Goals as goal
use Rattle.take_back.proofs.see_returned.Goals.{In_ok-block, In_ok-after, In_ok-before}

-- the block that was found, with its payload, is in the arena
holds : (c : In_ok-block) → let b = c.in_ok-block.block in
    (0 < b.grains) × (b.at + b.grains < grains_in c.args.heap.now) × (2 * b.at ≤ c.args.q) × (c.args.q - 2 * b.at ≤ 2 * b.grains)
holds c =
    let h = c.args.heap.now in
    owner_holds (memory_in h []) (grains_in h) c.args.q c.in_ok-block.block.at c.in_ok-block.block.grains (c.in_ok-block.ensures h.lists.now [])

-- there are fewer grains than a word has numbers
few : (c : In_ok-block) → 32 * grains_in c.args.heap.now < 2 * 9223372036854775808 + 32
few c = omega (arith, grains_below c.args.heap.now.tagged.arena.now c.args.heap.now.tagged.sized)

-- what is free after it and before it is in the arena, too
behind : (c : In_ok-after) → let b = c.in_ok-block.block in b.at + b.grains + c.in_ok-after.after < grains_in c.args.heap.now
behind c =
    let h = c.args.heap.now in
    let b = c.in_ok-block.block in
    after_holds (memory_in h []) (grains_in h) (b.at + b.grains) c.in_ok-after.after (c.in_ok-after.ensures [])

ahead : (c : In_ok-before) → c.in_ok-block.block.at < grains_in c.args.heap.now → c.in_ok-before.before ≤ c.in_ok-block.block.at
ahead c i =
    let h = c.args.heap.now in
    before_holds (memory_in h []) (grains_in h) c.in_ok-block.block.at c.in_ok-before.before (c.in_ok-before.ensures []) i

-- the script, once the block is known, and once what is after it is
owned : (c : In_ok-block) → (g : List ℕ) → let m = memory_in c.args.heap.now g in let n = grains_in c.args.heap.now in let b = c.in_ok-block.block in
    run m (see_returned n classes c.args.q) ≡ run m (sides n classes b.at b.grains)
owned c g =
    let h = c.args.heap.now in
    owner_found (memory_in h g) (grains_in h) c.args.q c.in_ok-block.block.at c.in_ok-block.block.grains (c.in_ok-block.ensures h.lists.now g)

passed : (c : In_ok-after) → (g : List ℕ) → let m = memory_in c.args.heap.now g in let n = grains_in c.args.heap.now in let b = c.in_ok-block.block in
    run m (see_returned n classes c.args.q) ≡ run m (joined n classes b.at b.grains c.in_ok-after.after)
passed c g =
    let h = c.args.heap.now in
    owner_found (memory_in h g) (grains_in h) c.args.q c.in_ok-block.block.at c.in_ok-block.block.grains (c.in_ok-block.ensures h.lists.now g)
    ∙ after_found (memory_in h g) (grains_in h) c.in_ok-block.block.at c.in_ok-block.block.grains (c.in_ok-see_guard.ensures h.lists.now h.tagged.tags.now g) c.in_ok-after.after (c.in_ok-after.ensures g)

pub returns-in_err-block : goal.returns-in_err-block
returns-in_err-block c g =
    let h = c.args.heap.now in
    let p = err_from_is_err_and c.from_residual.result c.from_residual.ensures.1 in
    rw (p.1, p.2) (owner_refused (memory_in h g) (grains_in h) c.args.q (number c.in_err-block.field-0.0) (c.in_err-block.ensures h.lists.now g))

pub see_guard-requires : goal.see_guard-requires
see_guard-requires c = omega (arith, (holds (goal.at.see_guard-requires c).In_ok-block).1)

pub returns-in_err-see_guard : goal.returns-in_err-see_guard
returns-in_err-see_guard c g =
    let h = c.args.heap.now in
    let b = c.in_ok-block.block in
    let p = err_from_is_err_and c.from_residual-in_err-see_guard.result c.from_residual-in_err-see_guard.ensures.1 in
    rw (p.1, p.2) (owned (goal.at.returns-in_err-see_guard c).In_ok-block g
    ∙ guard_bad (memory_in h g) (grains_in h) b.at b.grains (number c.in_err-see_guard.field-0.0) (c.in_err-see_guard.ensures h.lists.now h.tagged.tags.now g))

pub overflow_add-block : goal.overflow_add-block
overflow_add-block c = omega (arith, (holds (goal.at.overflow_add-block c).In_ok-block).1, few (goal.at.overflow_add-block c).In_ok-block)

pub returns-in_err-after : goal.returns-in_err-after
returns-in_err-after c g =
    let h = c.args.heap.now in
    let b = c.in_ok-block.block in
    let p = err_from_is_err_and c.from_residual-in_err-after.result c.from_residual-in_err-after.ensures.1 in
    rw (p.1, p.2) (owned (goal.at.returns-in_err-after c).In_ok-block g
    ∙ after_bad (memory_in h g) (grains_in h) b.at b.grains (c.in_ok-see_guard.ensures h.lists.now h.tagged.tags.now g) (number c.in_err-after.field-0.0) (c.in_err-after.ensures g))

pub see_before-requires : goal.see_before-requires
see_before-requires c = omega (arith, (holds (goal.at.see_before-requires c).In_ok-block).1)

pub returns-in_err-before : goal.returns-in_err-before
returns-in_err-before c g =
    let h = c.args.heap.now in
    let b = c.in_ok-block.block in
    let p = err_from_is_err_and c.from_residual-in_err-before.result c.from_residual-in_err-before.ensures.1 in
    rw (p.1, p.2) (passed (goal.at.returns-in_err-before c).In_ok-after g
    ∙ before_bad (memory_in h g) (grains_in h) b.at b.grains c.in_ok-after.after (number c.in_err-before.field-0.0) (c.in_err-before.ensures g))

pub overflow_add-block-2 : goal.overflow_add-block-2
overflow_add-block-2 c = omega (arith, behind (goal.at.overflow_add-block-2 c).In_ok-after, few (goal.at.overflow_add-block-2 c).In_ok-block)

pub overflow_add-before : goal.overflow_add-before
overflow_add-before c =
    let i = (holds (goal.at.overflow_add-before c).In_ok-block).1 in
    omega (arith, ahead (goal.at.overflow_add-before c).In_ok-before (omega (arith, i)), behind (goal.at.overflow_add-before c).In_ok-after, few (goal.at.overflow_add-before c).In_ok-block)

pub see_join-requires : goal.see_join-requires
see_join-requires c =
    let o = holds (goal.at.see_join-requires c).In_ok-block in
    (omega (arith, o.0), omega (arith, o.1))

pub returns-in_err-see_join : goal.returns-in_err-see_join
returns-in_err-see_join c g =
    let h = c.args.heap.now in
    let b = c.in_ok-block.block in
    let p = err_from_is_err_and c.from_residual-in_err-see_join.result c.from_residual-in_err-see_join.ensures.1 in
    rw (p.1, p.2) (passed (goal.at.returns-in_err-see_join c).In_ok-after g
    ∙ join_bad (memory_in h g) (grains_in h) b.at b.grains c.in_ok-after.after c.in_ok-before.before (c.in_ok-before.ensures g) (number c.in_err-see_join.field-0.0) (c.in_err-see_join.ensures g))

pub returns : goal.returns
returns c g =
    let h = c.args.heap.now in
    let b = c.in_ok-block.block in
    passed (goal.at.returns c).In_ok-after g
    ∙ join_found (memory_in h g) (grains_in h) b.at b.grains c.in_ok-after.after c.in_ok-before.before (c.in_ok-before.ensures g) (c.in_ok-see_join.ensures g)
