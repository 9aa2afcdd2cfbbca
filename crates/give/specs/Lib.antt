-- The plan as the script answers it, and what its writes ask for (Shown); the links behind the pieces of full length (Behind),
-- the check of a list's head there (HeadBehind), and the head that the last piece is put before (Joined, Last); the script that
-- lays out a region (Laid), the plans of the code (Planned), and of a whole region (Whole); the slices after a plan (Given).
pub mod Shown
pub mod Behind
pub mod HeadBehind
pub mod Joined
pub mod Last
pub mod Laid
pub mod Planned
pub mod Whole
pub mod Given
