-- Bits of a word, of a table, and of the map of the lists.
pub mod Bit
pub mod First
pub mod TableBit
pub mod Map
pub mod Search
