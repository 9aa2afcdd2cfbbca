-- What follows from specs/Dead.antt.
use Prim.Native.Nat.{ℕ, suc, ◌+◌, ◌-◌, ◌*◌, ◌/◌, ◌%◌, ◌≤◌, ◌<◌}
use Rattle.std.proofs.Common.{arith, ap, sym, ◌∙◌}
use Rattle.std.specs.Prelude.{◌≡◌, refl, List, []}
use Rattle.std.proofs.Math.Logic.{⊎_elim}
use Rattle.choice.specs.Choice.{eq_no, eq_case, le?}
use Rattle.definition.specs.Blocks.{Block}
use Rattle.script.specs.Memory.{Memory, Table}
use Rattle.script.specs.Script.{Script, unless_eq, unless_le, run, no, Gives}
use Rattle.script.proofs.Script.{gives_le, goes, reads, halts, halts_eq, halts_le}
use Rattle.tags.specs.Tag.{Tag, flags, START, SMALL, LARGE}
use Rattle.tags.proofs.Decode.{small_here, large_here, pad_here}
use Rattle.plans.specs.Deeds.{Plan, after}
use Rattle.plans.specs.Checks.{Owner, owner_small, owner_large, see_owner}
use Rattle.plans.specs.Deallocate.{deallocate_script}
use Rattle.plans.specs.Reallocate.{reallocate_script}
use Rattle.plans.specs.Calls.{Call, Allocate, Deallocate, Reallocate, Insert, Append, script_of}
use Rattle.armour.specs.Row.{Row}
use Rattle.armour.proofs.Turns.{row_same}
use Rattle.armour.proofs.Deallocates.{deallocate_armoured}
use Rattle.armour.specs.Dead.{NotLiveIn, Names}

-- ---- its block is not found

module _ (n c : ℕ) (m : Memory) (xs : List Block) (o : Row n c m xs) (q : ℕ) (dead : NotLiveIn xs q) where
  module _ (low : q < 2 * n) where
    small_refused : q % 2 ≡ 1 → run m (owner_small n (q / 2)) ≡ no 3
    small_refused e = reads m Tag (q / 2) _ refl ∙ halts m (unless_eq 3 (m Tag (q / 2) % flags) (START + SMALL)) _
        (halts_eq m 3 _ _ (λ v. dead (q / 2) _ 1 (small_here (m Tag) xs o.order o.tags (q / 2) (omega (arith, o.whole)) v) (omega arith)))

    large_refused : (q % 2 ≡ 1 → ⊥) → run m (owner_large n (q / 2)) ≡ no 3
    large_refused e = ⊎_elim
        (λ (some : 1 ≤ q / 2). goes m (unless_le 3 1 (q / 2)) _ (gives_le m 3 _ _ some) ∙ reads m Tag (q / 2 - 1) _ refl
        ∙ ap (run m) (eq_no (m Tag (q / 2 - 1) % flags) (START + LARGE) _ _
        (λ v. dead (q / 2 - 1) _ 2 (large_here (m Tag) xs o.order o.tags (q / 2 - 1) (omega (arith, o.whole)) v) (omega (arith, e))))
        ∙ halts m (unless_eq 3 (m Tag (q / 2 - 1) % flags) LARGE) _ (halts_eq m 3 _ _
        (λ v. let h = pad_here (m Tag) xs o.order o.tags (q / 2 - 1) (omega (arith, o.whole)) v in dead h.0 _ _ h.1 (omega (arith, h.2, e)))))
        (λ (none : q / 2 < 1). halts m (unless_le 3 1 (q / 2)) _ (halts_le m 3 _ _ none))
        (le? 1 (q / 2))

  pub owner_refused : run m (see_owner n q) ≡ no 3
  unfolding see_owner
  owner_refused = ⊎_elim
      (λ (low : suc q ≤ 2 * n). goes m (unless_le 3 (suc q) (2 * n)) _ (gives_le m 3 _ _ low)
      ∙ eq_case (λ (t : Script Owner). run m t ≡ no 3) (q % 2) 1 _ _ (small_refused low) (large_refused low))
      (λ (high : 2 * n < suc q). halts m (unless_le 3 (suc q) (2 * n)) _ (halts_le m 3 _ _ high))
      (le? (suc q) (2 * n))

  -- ---- so the calls are refused

  pub deallocate_dead : run m (deallocate_script n c q) ≡ no 3
  unfolding deallocate_script
  deallocate_dead = halts m (see_owner n q) _ owner_refused

  pub reallocate_dead : (p a : ℕ) → run m (reallocate_script n c q p a) ≡ no 3
  unfolding reallocate_script
  reallocate_dead p a = halts m (see_owner n q) _ owner_refused

pub call_dead : (n c most : ℕ) (m : Memory) (xs : List Block) (k : Call) (q : ℕ) → Row n c m xs → Names k q → NotLiveIn xs q → run m (script_of n c most k) ≡ no 3
call_dead n c most m xs (Allocate p a) q o i dead = absurd i
call_dead n c most m xs (Deallocate v) q o i dead = deallocate_dead n c m xs o v (λ x s d b e. dead x s d b (sym i ∙ e))
call_dead n c most m xs (Reallocate v p a) q o i dead = reallocate_dead n c m xs o v (λ x s d b e. dead x s d b (sym i ∙ e)) p a
call_dead n c most m xs (Insert g len) q o i dead = absurd i
call_dead n c most m xs (Append g len) q o i dead = absurd i

-- A payload that was returned, in the next call: u is the memory after the return, with any damage to everything but the tags and
-- the table of regions. For later calls see Runs, `unlent_refused`.
pub returned_dead : (n c most q : ℕ) (m u : Memory) (xs : List Block) (t : Plan) (k : Call) → Row n c m xs → Gives m (deallocate_script n c q) t
    → u Tag ≡ after m t Tag → u Table ≡ after m t Table → Names k q → run u (script_of n c most k) ≡ no 3
returned_dead n c most q m u xs t k o g e f i =
    let w = deallocate_armoured n c q m xs (λ k. []) t o g in
    call_dead n c most u w.heap.blocks k q (row_same n c (after m t) u w.heap.blocks e f w.armoured.row) i w.gone
