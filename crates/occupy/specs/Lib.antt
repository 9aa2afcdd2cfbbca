-- A planned take, carried out.
pub mod Taken
