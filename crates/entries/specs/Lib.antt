-- The free lists in the lent slices, word by word: read Answers and Lent for what the contracts speak of, Agrees for what the checks
-- ask of the words, and Stepped for what leaving and entering a list makes of the slices.
pub mod Answers
pub mod Lent
pub mod Decides
pub mod Agrees
pub mod Seen
pub mod Sizes
pub mod Marks
pub mod Stepped
pub mod Heads
