-- What is proved of the definitions in specs/.
pub mod Bound
pub mod Changes
pub mod Decode
pub mod Each
pub mod Piece
pub mod Says
pub mod Stamped
pub mod Stamps
pub mod Tagged
pub mod Unique
pub mod Within
