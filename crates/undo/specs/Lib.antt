-- A take, undone: lists that agree but for some words (Agree), what is saved of the slices (Saved), writes that go to
-- nothing else (Covered), that those of a take do (Taken), and what the slices are once it is put back (Undone).
pub mod Agree
pub mod Saved
pub mod Covered
pub mod Taken
pub mod Undone
