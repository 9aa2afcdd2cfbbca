-- Tests on numbers as functions, the function that differs from another at one place, and what a yes or a no says.
pub mod Choice
pub mod Says
