-- What is proved of the definitions in specs/.
pub mod Bit
pub mod First
pub mod Map
pub mod Search
pub mod TableBit
pub mod Zeros
