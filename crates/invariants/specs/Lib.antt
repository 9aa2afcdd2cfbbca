-- What always holds of the definition. Order says which lists of blocks there are, Moves what holds of every heap, and
-- Promises what a take promises, Resized what a resize does; the others lead there.
pub mod Order
pub mod Members
pub mod Pieces
pub mod Moves
pub mod Placing
pub mod Kept
pub mod Promises
pub mod NotLive
pub mod Resized
pub mod Cramped
pub mod Gaps
pub mod Regions
pub mod Stays
pub mod InPiece
