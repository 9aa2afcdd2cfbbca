-- The lent slices as a memory: read Slices for the definitions, and Stored for the law.
pub mod Slices
pub mod TagWords
pub mod Fields
pub mod Kept
pub mod Shifted
pub mod Ample
pub mod Held
pub mod Empty
