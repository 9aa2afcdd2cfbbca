-- The lent slices as a memory: read Decode and Slices for the definitions, and Stored for the law.
pub mod Decode
pub mod Arena
pub mod Heads
pub mod Slices
pub mod Fields
pub mod Kept
pub mod Ample
