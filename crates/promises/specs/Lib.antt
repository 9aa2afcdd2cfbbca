-- What the calls promise, to whoever lends the slices, and that it is kept.

-- what is promised: read Promises and Runs, and for their words Performs and Terms
pub mod Bytes
pub mod Performs
pub mod Numbers
pub mod Terms
pub mod Begins
pub mod Promises
pub mod Runs
-- any slices, damaged or not: numbers, refusals, words that are read, writes that can be stored, payloads that move
pub mod Settled
pub mod Alike
pub mod Carrying
pub mod Storable
-- slices whose tags are right
pub mod Survives
-- slices that stand for a heap
pub mod Handed
