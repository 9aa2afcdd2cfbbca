-- What is proved of the definitions in specs/.
pub mod AllocateMeets
pub mod Broken
pub mod Calls
pub mod Commute
pub mod DeallocateMeets
pub mod ElsewhereMeets
pub mod Listed
pub mod ReallocateMeets
pub mod ReallocateWhole
pub mod RegionMeets
pub mod Runs
pub mod Seen
pub mod SeenBeside
pub mod SeenOwner
pub mod SeenTaken
pub mod Sounds
pub mod Tables
