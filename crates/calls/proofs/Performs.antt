-- What follows from specs/Performs.antt.
use Rattle.std.specs.Prelude.{ℕ, ◌≡◌, refl}
use Rattle.script.specs.Script.{no}
use Rattle.sound.specs.Plans.{Plan}
use Rattle.sound.specs.Calls.{Call, Take, Return, Resize, Give, Append}
use Rattle.sound.specs.Runs.{not}
use Rattle.slices.specs.Slices.{Slices, stores}
use Rattle.slices.specs.Kept.{Lengths}
use Rattle.slices.proofs.Kept.{stores_lengths}
use Rattle.carry.proofs.Carry.{carried_lengths, carried_tables}
use Rattle.calls.specs.Performs.{outcome, Goes, stored, Performs, refused}

-- it keeps all lengths
pub stored_lengths : (S : Slices) (K : Call) (p : Plan) → Lengths S (stored S K p)
stored_lengths S (Take h a) p = stores_lengths 8 S p.writes
stored_lengths S (Return q) p = stores_lengths 8 S p.writes
stored_lengths S (Resize q h a) p = carried_lengths S q p
stored_lengths S (Give g len) p = stores_lengths 8 S p.writes
stored_lengths S (Append g len) p = stores_lengths 8 S p.writes

-- and the regions are those with all writes stored
pub stored_regions : (S : Slices) (K : Call) (p : Plan) → (stored S K p).regions ≡ (stores 8 S p.writes).regions
stored_regions S (Take h a) p = refl
stored_regions S (Return q) p = refl
stored_regions S (Resize q h a) p = (carried_tables S q p).regions
stored_regions S (Give g len) p = refl
stored_regions S (Append g len) p = refl
