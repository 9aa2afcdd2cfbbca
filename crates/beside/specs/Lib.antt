-- The block of a live payload, and the free blocks beside a used one, checked in the lent slices: read Answers for what the
-- contracts speak of.
pub mod Answers
pub mod Owns
pub mod Sides
pub mod Holds
