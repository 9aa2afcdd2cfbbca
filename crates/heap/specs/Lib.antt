-- What a call through the lent slices leaves of them: read Slices.
pub mod Slices
