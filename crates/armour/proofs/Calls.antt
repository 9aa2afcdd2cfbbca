-- What follows from specs/Calls.antt.
use Rattle.std.specs.Prelude.{ℕ, ◌≤◌, List}
use Rattle.definition.specs.Blocks.{Block}
use Rattle.definition.specs.Lists.{Lists}
use Rattle.script.specs.Memory.{Memory}
use Rattle.script.specs.Script.{Gives}
use Rattle.plans.specs.Deeds.{Plan}
use Rattle.plans.specs.Calls.{Call, Allocate, Deallocate, Reallocate, Insert, Append, script_of, Fair}
use Rattle.armour.specs.Row.{Row}
use Rattle.armour.proofs.Allocates.{allocate_armoured}
use Rattle.armour.proofs.Deallocates.{deallocate_armoured}
use Rattle.armour.proofs.Reallocates.{reallocate_armoured}
use Rattle.armour.proofs.Regions.{insert_armoured, append_armoured}
use Rattle.armour.specs.Calls.{CallArmoured}

pub call_armoured : (n c most : ℕ) (m : Memory) (xs : List Block) (f : Lists) (k : Call) (t : Plan) → 1 ≤ c → Row n c m xs → Fair k → Gives m (script_of n c most k) t → CallArmoured n c m xs f k t
call_armoured n c most m xs f (Allocate p a) t big o fair g =
    let w = allocate_armoured n c p a m xs f t fair o g in
    record { intact = tt; heap = w.heap; possible = record { block = w.block; grains = w.grains; was_free = w.was_free; searched = w.searched; defined = w.defined }; armoured = w.armoured }
call_armoured n c most m xs f (Deallocate q) t big o fair g =
    let w = deallocate_armoured n c q m xs f t o g in
    record { intact = record { block = w.block; grains = w.grains; place = w.place; was_used = w.was_used; payload = w.payload; guarded = w.guarded }; heap = w.heap; possible = w.defined; armoured = w.armoured }
call_armoured n c most m xs f (Reallocate q p a) t big o fair g =
    let w = reallocate_armoured n c q p a m xs f t fair.0 o g in
    record { intact = record { block = w.block; grains = w.grains; place = w.place; was_used = w.was_used; payload = w.owner; guarded = w.guarded }; heap = w.heap; possible = w.defined; armoured = w.armoured }
call_armoured n c most m xs f (Insert x len) t big o fair g = let w = insert_armoured n c x len m xs f o big most t g in record { intact = tt; heap = w.heap; possible = w.defined; armoured = w.armoured }
call_armoured n c most m xs f (Append x len) t big o fair g = let w = append_armoured n c x len m xs f o big most t g in record { intact = tt; heap = w.heap; possible = w.defined; armoured = w.armoured }
