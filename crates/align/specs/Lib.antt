-- Alignments.
pub mod Align
