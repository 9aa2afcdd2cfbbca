-- `neighbours::see_owner`: each return is one step of the script.
use mathlib.Core.Path.{◌≡◌, sym, ◌∙◌}
use mathlib.Core.List.{List}
use Prim.Native.Nat.{ℕ, ◌+◌, ◌<◌, ◌≤◌}
use native.Mathlib.Omega.{arith}
use Rattle.std.proofs.lemmas.Result.{err_from_is_err_and}
use Rattle.script.specs.Script.{run}
use Rattle.sound.specs.Checks.{see_owner}
use Rattle.slices.specs.Decode.{grains}
use Rattle.header.specs.Turned.{grains_few}
use Rattle.free_list.specs.Lent.{held}
use Rattle.neighbours.specs.Owner.{block_odd, used_inside, owner_of, owner_dead, owner_lost, owner_none, owner_known, owner_behind, owner_end}
use Rattle.neighbours.proofs.see_owner.Goals as goal
use Rattle.neighbours.proofs.see_owner.Goals.{In-Some-used_at}

pub returns-then-table_bit-ne1 : goal.returns-then-table_bit-ne1
returns-then-table_bit-ne1 c l t =
    let s = c.args in
    owner_dead s.a.now l s.live.now t s.q c.table_bit.result c.table_bit.ensures c.if-table_bit-ne1.true

-- ---- it is in the middle of a grain

pub returns-in_default : goal.returns-in_default
returns-in_default c l t =
    let s = c.args in
    owner_none s.a.now l s.live.now t s.q c.table_bit.result c.table_bit.ensures c.if-table_bit-ne1.false _ (block_odd _ s.q c.if-q-eq1.true) c.in_default.ensures

pub see_end-requires : goal.see_end-requires
see_end-requires c = (used_inside _ _ c.in-Some.s c.in-Some.ensures).1

pub returns-then-q-eq1 : goal.returns-then-q-eq1
returns-then-q-eq1 c l t =
    let s = c.args in
    c.see_end.ensures l s.live.now t
    ∙ sym (owner_known s.a.now l s.live.now t s.q c.table_bit.result c.table_bit.ensures c.if-table_bit-ne1.false _ (block_odd _ s.q c.if-q-eq1.true) c.in-Some.s c.in-Some.ensures
    ∙ owner_end s.a.now l s.live.now t s.q _ c.in-Some.s (omega (arith, c.if-q-eq1.true, (used_inside _ _ c.in-Some.s c.in-Some.ensures).0)))

-- ---- it is at a grain

pub returns-in_err-x : goal.returns-in_err-x
returns-in_err-x c =
    let s = c.args in
    let p = err_from_is_err_and c.from_residual.result c.from_residual.ensures.1 in
    rw (p.1, p.2) (λ l t. owner_lost s.a.now l s.live.now t s.q c.table_bit.result c.table_bit.ensures c.if-table_bit-ne1.false _ (c.in_err-x.ensures.answer l s.live.now t))

pub returns-in_default-used_at : goal.returns-in_default-used_at
returns-in_default-used_at c l t =
    let s = c.args in
    owner_none s.a.now l s.live.now t s.q c.table_bit.result c.table_bit.ensures c.if-table_bit-ne1.false _ (sym (c.in_ok-x.ensures.answer l s.live.now t)) c.in_default-used_at.ensures

-- a used block is there, and its end is in the arena
inside : (c : In-Some-used_at) → (1 ≤ c.in-Some-used_at.s) × (c.in_ok-x.x + c.in-Some-used_at.s < grains 8 c.args.a.now)
inside c = used_inside _ c.in_ok-x.x c.in-Some-used_at.s c.in-Some-used_at.ensures

known : (c : In-Some-used_at) → (l t : List ℕ) → c.table_bit.result ≡ 1 → let s = c.args in
    run (held s.a.now l s.live.now t) (see_owner s.q) ≡ run (held s.a.now l s.live.now t) (owner_of s.q c.in_ok-x.x c.in-Some-used_at.s)
known c l t b =
    let s = c.args in
    owner_known s.a.now l s.live.now t s.q c.table_bit.result c.table_bit.ensures b
    _ (sym (c.in_ok-x.ensures.answer l s.live.now t)) c.in-Some-used_at.s c.in-Some-used_at.ensures

pub overflow_add-x : goal.overflow_add-x
overflow_add-x c = omega (arith, (inside (goal.at.overflow_add-x c).In-Some-used_at).1, grains_few c.args.a.now c.well_formed.0.0)

pub overflow_mul-x : goal.overflow_mul-x
overflow_mul-x c = omega (arith, (inside (goal.at.overflow_mul-x c).In-Some-used_at).1, grains_few c.args.a.now c.well_formed.0.0)

pub returns-then-x-s : goal.returns-then-x-s
returns-then-x-s c l t = sym (known (goal.at.returns-then-x-s c).In-Some-used_at l t c.if-table_bit-ne1.false ∙ owner_behind _ l _ t _ _ _ c.if-x-s.true)

pub see_end-requires-2 : goal.see_end-requires-2
see_end-requires-2 c = (inside (goal.at.see_end-requires-2 c).In-Some-used_at).1

pub returns : goal.returns
returns c l t =
    c.see_end-2.ensures l c.args.live.now t ∙ sym (known (goal.at.returns c).In-Some-used_at l t c.if-table_bit-ne1.false ∙ owner_end _ l _ t _ _ _ c.if-x-s.false)
