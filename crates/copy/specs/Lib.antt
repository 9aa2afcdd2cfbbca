-- Bytes moved inside one list.
pub mod Copied
pub mod Moved
pub mod Words
