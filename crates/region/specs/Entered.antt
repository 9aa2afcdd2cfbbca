-- A region entered in the table of the regions (`with_region`), and that this is what the plan writes there.
use Rattle.std.specs.Prelude.{ℕ, suc, ◌+◌, ◌*◌, ◌≡◌, refl, List}
use Rattle.table.specs.Table.{entry, enter}
use Rattle.sound.specs.RegionPlan.{entry_writes}
use Rattle.slices.specs.Slices.{Slices, with_regions, stores}

-- the region from g to e behind the others, and one more of them
unfoldable pub with_region : List ℕ → ℕ → ℕ → List ℕ
with_region t g e = enter (enter (enter t (2 * entry t 0 + 1) g) (2 * entry t 0 + 2) e) 0 (suc (entry t 0))

-- so the plan writes it
pub region_stored : (w : ℕ) (S : Slices) (g e : ℕ) → stores w S (entry_writes (entry S.regions 0) g e) ≡ with_regions S (with_region S.regions g e)
unfolding with_region
region_stored w S g e = refl
