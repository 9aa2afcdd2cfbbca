-- After a call the slices are still what a function can be lent: bytes, tags and words.
use Rattle.std.specs.Prelude.{ℕ, suc, ◌+◌, ◌*◌, ◌≤◌, ◌<◌, List, length, get_or}
use Rattle.std.proofs.Common.{arith, subst, sym, ⊎_elim}
use Rattle.std.proofs.Math.ListN.{get_or-eq_default}
use Rattle.choice.specs.Choice.{le?}
use Rattle.copy.specs.Copied.{each_place}
use Rattle.copy.specs.Moved.{moved, moved_arrived, moved_kept, moved_length}
use Rattle.machine.specs.Machine.{half}
use Rattle.plans.specs.Deeds.{Plan, writes}
use Rattle.plans.specs.Calls.{Call, Allocate, Deallocate, Reallocate, Insert, Append}
use Rattle.refines.specs.Runs.{Reply}
use Rattle.lent.specs.Slices.{Slices, stores, AllValid}
use Rattle.lent.specs.Kept.{Lengths}
use Rattle.lent.proofs.Kept.{all_valid_keep}
use Rattle.lent.specs.Held.{byte_values, Under, Held}
use Rattle.lent.proofs.Held.{held_stores}
use Rattle.promises.specs.Bytes.{ByteCall}
use Rattle.lent.specs.Shifted.{carried_out}
use Rattle.promises.specs.Performs.{Sized, stored, Performs, early, refused, granted}
use Rattle.promises.proofs.Offsets.{asks_fair}
use Rattle.promises.proofs.Carrying.{between, between_lengths}
use Rattle.promises.proofs.Storable.{goes_long, outcome_valid}
use Rattle.promises.proofs.Differs.{valid_parts}
use Rattle.promises.proofs.One.{performs_lengths}

moved_under : (a : List ℕ) (from to n : ℕ) → Under byte_values a → Under byte_values (moved a from to n)
moved_under a from to n u = each_place (λ j. get_or (moved a from to n) j 0 < byte_values) to n
    (λ i h. ⊎_elim
    (λ (k : suc (to + i) ≤ length a). subst (λ (v : ℕ). v < byte_values) (sym (moved_arrived a from to n i h (omega arith))) (u (from + i)))
    (λ (k : length a < suc (to + i)). subst (λ (v : ℕ). v < byte_values) (sym (get_or-eq_default (moved a from to n) 0 (omega (arith, moved_length a from to n)))) (omega arith))
    (le? (suc (to + i)) (length a)))
    (λ j h. subst (λ (v : ℕ). v < byte_values) (sym (moved_kept a from to n j h)) (u j))

carried_held : (S : Slices) (q : ℕ) (t : Plan) → AllValid S (writes t) → Held S → Held (carried_out S q t)
carried_held S q t v h =
    let k = valid_parts S t.early t.late v in
    let w = held_stores S t.early k.0 h in
    held_stores (between S q t) t.late (all_valid_keep S (between S q t) t.late (between_lengths S q t) k.1)
    (record { arena = moved_under (stores S t.early).arena (half * q) (half * t.answer) (half * t.moved) w.arena; lists = w.lists; tags = w.tags; regions = w.regions })

stored_held : (S : Slices) (K : Call) (t : Plan) → AllValid S (writes t) → Held S → Held (stored S K t)
stored_held S (Allocate p a) t v h = held_stores S (writes t) v h
stored_held S (Deallocate q) t v h = held_stores S (writes t) v h
stored_held S (Reallocate q p a) t v h = carried_held S q t v h
stored_held S (Insert g len) t v h = held_stores S (writes t) v h
stored_held S (Append g len) t v h = held_stores S (writes t) v h

performs_held : (S : Slices) (k : ByteCall) (r : Reply) (T : Slices) → Sized S → Performs S k r T → Held T
performs_held S k r T z (early i e) = z.held
performs_held S k r T z (refused K i g e) = z.held
performs_held S k r T z (granted K t g e) = stored_held S K t (outcome_valid S z K t (goes_long S k K g.long g.asks) (asks_fair k K g.asks) e) z.held

-- lengths stay, so what holds bytes and words is still no longer than a word can count
pub sized_keep : (S T : Slices) → Lengths S T → Held T → Sized S → Sized T
sized_keep S T e h z = record { held = h; arena = rw e.arena z.arena; regions = rw e.regions z.regions }

pub performs_sized : (S : Slices) (k : ByteCall) (r : Reply) (T : Slices) → Sized S → Performs S k r T → Sized T
performs_sized S k r T z p = sized_keep S T (performs_lengths S k r T p) (performs_held S k r T z p) z
