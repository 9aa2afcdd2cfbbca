-- What follows from the definitions of this crate.
pub mod Says
