-- What is proved of the definitions in specs/.
pub mod Ample
pub mod Arena
pub mod Decode
pub mod Fields
pub mod Heads
pub mod Kept
pub mod Slices
pub mod Stored
pub mod Widths
