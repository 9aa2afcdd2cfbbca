-- A payload that is returned: its block and the free blocks beside it, found by checks alone; and what is written for it.
pub mod Returned
pub mod Answers
pub mod Sees
pub mod Free
