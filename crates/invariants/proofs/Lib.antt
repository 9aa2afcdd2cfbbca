-- What is proved of the definitions in specs/.
pub mod Cramped
pub mod Gaps
pub mod InPiece
pub mod Kept
pub mod Live
pub mod Members
pub mod Moves
pub mod Neighbours
pub mod NotLive
pub mod Order
pub mod Pieces
pub mod Placing
pub mod Promises
pub mod Regions
pub mod Resized
pub mod Stays
