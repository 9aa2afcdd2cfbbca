-- On a memory that stands for a heap each call does what the definition says. Read Seen, SeenOwner, SeenBeside, SeenTaken.
pub mod Sounds
pub mod DeallocateMeets
pub mod Commute
pub mod ElsewhereMeets
pub mod ReallocateMeets
pub mod Calls
pub mod Runs
