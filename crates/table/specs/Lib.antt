-- Tables of numbers.
pub mod Table
