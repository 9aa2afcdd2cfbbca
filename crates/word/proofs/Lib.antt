-- What the library's conversions between numbers and bytes are here.
pub mod Bytes
