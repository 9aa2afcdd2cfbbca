-- The plan of a return as the script answers it, and the script's steps in the order in which the code finds them.
pub mod Shown
pub mod Join
pub mod Written
