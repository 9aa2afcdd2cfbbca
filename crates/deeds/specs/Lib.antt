-- What a deed stores in the lent slices, part by part, as code stores it: definitions, and the laws about them.
pub mod Stored
pub mod Runs
pub mod Maybe
pub mod Does
pub mod Done
pub mod Moves
