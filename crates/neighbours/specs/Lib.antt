-- What the code answers as the scripts answer it, what a size word says (Size), and the scripts' steps in the order in which
-- the code finds them; and the leaving of free neighbours: what it changes (After), what is written (Leaving), and that it can
-- be (Within).
pub mod Shown
pub mod Size
pub mod Owner
pub mod Beside
pub mod After
pub mod Leaving
pub mod Within
