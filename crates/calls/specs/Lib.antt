-- The calls as callers make them. Read Bytes first, then Performs, then Promises.
pub mod Bytes
pub mod Performs
pub mod Payload
pub mod Storable
pub mod Fills
pub mod Resizes
pub mod Refines
pub mod Room
pub mod Begins
pub mod Untouched
pub mod Runs
pub mod Numbers
pub mod Conditions
pub mod Handed
pub mod Rehoused
pub mod Damage
pub mod Promises
