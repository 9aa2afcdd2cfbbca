-- What is proved of the definitions in specs/.
pub mod Ample
pub mod Empty
pub mod Fields
pub mod Held
pub mod Kept
pub mod Shown
pub mod Stored
pub mod TagWords
