-- The plan of a slide as the script answers it (Shown), the script's steps in the order in which the code finds them
-- (Steps), and what is written (Stored).
pub mod Shown
pub mod Steps
pub mod Stored
