-- `resize::see_resized`: each return is where the script ends.
use Prim.Native.Nat.{ℕ, ◌+◌, ◌-◌, ◌*◌, ◌≤◌, ◌<◌}
use native.Mathlib.Omega.{arith}
use mathlib.Core.List.{List, []}
use mathlib.Core.Path.{◌≡◌, ap, sym, ◌∙◌}
use Rattle.std.proofs.lemmas.Result.{err_from_is_err_and}
use Rattle.refusal.specs.Number.{number}
use Rattle.script.specs.Script.{run}
use Rattle.machine.specs.Machine.{classes}
use Rattle.plans.specs.Checks.{see_rest}
use Rattle.plans.specs.Reallocate.{stretch_script}
use Rattle.lent.proofs.Shown.{grains_below}
use Rattle.entries.specs.Lent.{memory_in, grains_in}
use Rattle.beside.specs.Holds.{owner_holds, after_holds}
use Rattle.resize.specs.Sees.{block, see_resized, owner_refused, owner_found, guard_bad, size_same, after_bad, after_found, stretch_bad, stretch_found, stretch_small}
use Rattle.resize.proofs.see_resized.Goals as goal
use Rattle.resize.proofs.see_resized.Goals.{In_ok-block, In_ok-after}

-- the block that was found, with its payload, is in the arena
holds : (c : In_ok-block) → let b = c.in_ok-block.block in
    (0 < b.grains) × (b.at + b.grains < grains_in c.args.heap.now) × (2 * b.at ≤ c.args.q) × (c.args.q - 2 * b.at ≤ 2 * b.grains)
holds c =
    let h = c.args.heap.now in
    owner_holds (memory_in h []) (grains_in h) c.args.q c.in_ok-block.block.at c.in_ok-block.block.grains (c.in_ok-block.ensures h.lists.now [])

-- what is free after it is in the arena, too
behind : (c : In_ok-after) → let b = c.in_ok-block.block in b.at + b.grains + c.in_ok-after.after < grains_in c.args.heap.now
behind c =
    let h = c.args.heap.now in
    let b = c.in_ok-block.block in
    after_holds (memory_in h []) (grains_in h) (b.at + b.grains) c.in_ok-after.after (c.in_ok-after.ensures [])

-- the script, once the block is known, and once what is after it is
owned : (c : In_ok-block) → (g : List ℕ) → let m = memory_in c.args.heap.now g in let n = grains_in c.args.heap.now in let b = c.in_ok-block.block in
    run m (see_resized n c.args.q c.args.asked.length c.args.asked.multiple) ≡ run m (block n c.args.q c.args.asked.length c.args.asked.multiple b.at b.grains)
owned c g =
    let h = c.args.heap.now in
    let b = c.in_ok-block.block in
    owner_found (memory_in h g) (grains_in h) c.args.q c.args.asked.length c.args.asked.multiple b.at b.grains (c.in_ok-block.ensures h.lists.now g)

passed : (c : In_ok-after) → (g : List ℕ) → let m = memory_in c.args.heap.now g in let n = grains_in c.args.heap.now in let b = c.in_ok-block.block in
    run m (see_resized n c.args.q c.args.asked.length c.args.asked.multiple) ≡ run m (stretch_script n classes c.args.q c.args.asked.length c.args.asked.multiple b.at b.grains (c.args.q - 2 * b.at) c.in_ok-after.after)
passed c g =
    let h = c.args.heap.now in
    let b = c.in_ok-block.block in
    owner_found (memory_in h g) (grains_in h) c.args.q c.args.asked.length c.args.asked.multiple b.at b.grains (c.in_ok-block.ensures h.lists.now g)
    ∙ after_found (memory_in h g) (grains_in h) c.args.q c.args.asked.length c.args.asked.multiple b.at b.grains (c.in_ok-see_guard.ensures h.lists.now h.tagged.tags.now g) (λ z. c.if-keep-block.false (c.keeps_of-keep.ensures ∙ z)) c.in_ok-after.after (c.in_ok-after.ensures g)

pub returns-in_err-block : goal.returns-in_err-block
returns-in_err-block c g =
    let h = c.args.heap.now in
    let p = err_from_is_err_and c.from_residual.result c.from_residual.ensures.1 in
    rw (p.1, p.2) (owner_refused (memory_in h g) (grains_in h) c.args.q c.args.asked.length c.args.asked.multiple (number c.in_err-block.field-0.0) (c.in_err-block.ensures h.lists.now g))

pub see_guard-requires : goal.see_guard-requires
see_guard-requires c = omega (arith, (holds (goal.at.see_guard-requires c).In_ok-block).1)

pub returns-in_err-see_guard : goal.returns-in_err-see_guard
returns-in_err-see_guard c g =
    let h = c.args.heap.now in
    let b = c.in_ok-block.block in
    let p = err_from_is_err_and c.from_residual-in_err-see_guard.result c.from_residual-in_err-see_guard.ensures.1 in
    rw (p.1, p.2) (owned (goal.at.returns-in_err-see_guard c).In_ok-block g ∙ guard_bad (memory_in h g) (grains_in h) c.args.q c.args.asked.length c.args.asked.multiple b.at b.grains (number c.in_err-see_guard.field-0.0) (c.in_err-see_guard.ensures h.lists.now h.tagged.tags.now g))

pub overflow_mul-block : goal.overflow_mul-block
overflow_mul-block c = omega (arith, (holds (goal.at.overflow_mul-block c).In_ok-block).1, grains_below c.args.heap.now.tagged.arena.now c.args.heap.now.tagged.sized)

pub overflow_sub-q : goal.overflow_sub-q
overflow_sub-q c = omega (arith, (holds (goal.at.overflow_sub-q c).In_ok-block).2)

pub keeps_of-keep-requires : goal.keeps_of-keep-requires
keeps_of-keep-requires c = omega (arith, (holds (goal.at.keeps_of-keep-requires c).In_ok-block).1, (holds (goal.at.keeps_of-keep-requires c).In_ok-block).3, grains_below c.args.heap.now.tagged.arena.now c.args.heap.now.tagged.sized, c.args.asked.fits)

pub returns-then-keep-block : goal.returns-then-keep-block
returns-then-keep-block c g =
    let h = c.args.heap.now in
    let b = c.in_ok-block.block in
    owned (goal.at.returns-then-keep-block c).In_ok-block g ∙ size_same (memory_in h g) (grains_in h) c.args.q c.args.asked.length c.args.asked.multiple b.at b.grains (c.in_ok-see_guard.ensures h.lists.now h.tagged.tags.now g) (sym c.keeps_of-keep.ensures ∙ c.if-keep-block.true)

pub overflow_add-block : goal.overflow_add-block
overflow_add-block c = omega (arith, (holds (goal.at.overflow_add-block c).In_ok-block).1, grains_below c.args.heap.now.tagged.arena.now c.args.heap.now.tagged.sized)

pub returns-in_err-after : goal.returns-in_err-after
returns-in_err-after c g =
    let h = c.args.heap.now in
    let b = c.in_ok-block.block in
    let p = err_from_is_err_and c.from_residual-in_err-after.result c.from_residual-in_err-after.ensures.1 in
    rw (p.1, p.2) (owned (goal.at.returns-in_err-after c).In_ok-block g ∙ after_bad (memory_in h g) (grains_in h) c.args.q c.args.asked.length c.args.asked.multiple b.at b.grains (c.in_ok-see_guard.ensures h.lists.now h.tagged.tags.now g) (λ z. c.if-keep-block.false (c.keeps_of-keep.ensures ∙ z)) (number c.in_err-after.field-0.0) (c.in_err-after.ensures g))

pub overflow_add-block-2 : goal.overflow_add-block-2
overflow_add-block-2 c = omega (arith, behind (goal.at.overflow_add-block-2 c).In_ok-after, grains_below c.args.heap.now.tagged.arena.now c.args.heap.now.tagged.sized)

pub overflow_add-block-then-keep-block-2 : goal.overflow_add-block-then-keep-block-2
overflow_add-block-then-keep-block-2 c = omega (arith, behind (goal.at.overflow_add-block-then-keep-block-2 c).In_ok-after, grains_below c.args.heap.now.tagged.arena.now c.args.heap.now.tagged.sized)

pub see_rest-requires : goal.see_rest-requires
see_rest-requires c =
    let o = holds (goal.at.see_rest-requires c).In_ok-block in
    (omega (arith, o.0), c.if-keep-block-2.true, omega (arith, o.1))

pub returns-in_err-see_rest : goal.returns-in_err-see_rest
returns-in_err-see_rest c g =
    let h = c.args.heap.now in
    let b = c.in_ok-block.block in
    let p = err_from_is_err_and c.from_residual-in_err-see_rest.result c.from_residual-in_err-see_rest.ensures.1 in
    rw (p.1, p.2) (passed (goal.at.returns-in_err-see_rest c).In_ok-after g ∙ stretch_bad (memory_in h g) (grains_in h) c.args.q c.args.asked.length c.args.asked.multiple b.at b.grains (c.args.q - 2 * b.at) c.in_ok-after.after (omega (arith, c.keeps_of-keep.ensures, c.if-keep-block-2.true)) (number c.in_err-see_rest.field-0.0) (ap (λ (z : ℕ). run (memory_in h g) (see_rest (grains_in h) classes (b.grains + c.in_ok-after.after) z)) (sym c.keeps_of-keep.ensures) ∙ c.in_err-see_rest.ensures g))

pub returns-then-keep-block-2 : goal.returns-then-keep-block-2
returns-then-keep-block-2 c g =
    let h = c.args.heap.now in
    let b = c.in_ok-block.block in
    passed (goal.at.returns-then-keep-block-2 c).In_ok-after g ∙ stretch_found (memory_in h g) (grains_in h) c.args.q c.args.asked.length c.args.asked.multiple b.at b.grains (c.args.q - 2 * b.at) c.in_ok-after.after (omega (arith, c.keeps_of-keep.ensures, c.if-keep-block-2.true)) (ap (λ (z : ℕ). run (memory_in h g) (see_rest (grains_in h) classes (b.grains + c.in_ok-after.after) z)) (sym c.keeps_of-keep.ensures) ∙ c.in_ok-see_rest.ensures g)

pub see_move-requires : goal.see_move-requires
see_move-requires c = ((holds (goal.at.see_move-requires c).In_ok-block).0, behind (goal.at.see_move-requires c).In_ok-after)

pub returns : goal.returns
returns c g =
    let h = c.args.heap.now in
    let b = c.in_ok-block.block in
    passed (goal.at.returns c).In_ok-after g ∙ stretch_small (memory_in h g) (grains_in h) c.args.q c.args.asked.length c.args.asked.multiple b.at b.grains (c.args.q - 2 * b.at) c.in_ok-after.after (omega (arith, c.keeps_of-keep.ensures, c.if-keep-block-2.false)) ∙ c.see_move.ensures c.args.q g
