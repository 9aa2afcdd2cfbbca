-- A payload gets another size: in place, downwards or elsewhere, found by checks alone; and what is written for it.
pub mod Answers
pub mod Sees
