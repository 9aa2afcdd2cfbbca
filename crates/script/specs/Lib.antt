-- What a call does to any memory: read Memory, then Script.
pub mod Memory
pub mod Script
pub mod Locality
