-- What the tag table says of the blocks, and what each call writes to it. Read Tag and Decode, then Writes and Stamped.
pub mod Tag
pub mod Says
pub mod Decode
pub mod Writes
pub mod Each
pub mod Within
pub mod Stamps
pub mod Changes
