-- What is proved of the definitions in specs/.
pub mod Class
pub mod Direction
pub mod Fit
pub mod Log
pub mod Rows
