-- Words: bytes of an arena as numbers.
pub mod Number
pub mod Word
pub mod Spelled
