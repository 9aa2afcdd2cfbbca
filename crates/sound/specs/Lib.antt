-- What each call reads, checks and writes, on any memory; how a memory stands for a heap; and that on such a memory each
-- call does what the definition says.

-- the scripts: the parts, the calls, and how many words they take
pub mod Links
pub mod Checks
pub mod Plans
pub mod RegionPlan
-- the relation: the blocks, the lists, all of it; what it is worth
pub mod Row
pub mod Chain
pub mod Strung
pub mod Sound
pub mod Meets
-- any memory, damaged or not: what an answer tells, with which numbers is refused, and that every write can be stored
pub mod Inverted
pub mod Checked
pub mod TakeChecked
pub mod RegionChecked
pub mod Refused
pub mod RefusedCalls
pub mod Writable
pub mod WritableCalls
pub mod WritableResize
-- steps of the proofs: the checks go through; rows and lists after the writes; what is left to show
pub mod Seen
pub mod SeenBeside
pub mod Core
pub mod Relists
pub mod Leave
pub mod Swaps
pub mod Finish
pub mod Founded
pub mod Laying
pub mod RegionTable
-- the calls
pub mod ResizeInPlace
pub mod RegionSound
-- all calls at once, and lists of calls
pub mod Calls
pub mod LiveResize
pub mod TableWrites
pub mod Runs
-- payloads: no call writes into one that it is not about
pub mod PayloadWrites
pub mod Filled
pub mod PayloadTake
pub mod PayloadReturn
pub mod PayloadMoved
pub mod Payloads
