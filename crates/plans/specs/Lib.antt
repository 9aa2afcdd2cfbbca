-- What each call reads, checks and plans to write, on any memory. Read Deeds, Checks, then the calls.
pub mod Deeds
pub mod Checks
pub mod Allocate
pub mod Deallocate
pub mod Reallocate
pub mod Regions
pub mod Calls
pub mod Checked
pub mod Planned
pub mod Costs
pub mod Lengths
pub mod Storable
pub mod StorableParts
pub mod StorableResize
