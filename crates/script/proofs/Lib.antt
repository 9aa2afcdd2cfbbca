-- What is proved of the definitions in specs/.
pub mod Locality
pub mod Memory
pub mod Script
