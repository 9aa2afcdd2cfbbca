-- What is proved of the definitions in specs/.
pub mod Chain
pub mod Closed
pub mod Legal
pub mod Seen
pub mod Steps
pub mod Strung
