-- Requests.
pub mod Alignment
pub mod Asked
pub mod Range
pub mod Placed
pub mod Returned
pub mod Handed
