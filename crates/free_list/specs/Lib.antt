-- The free lists in the lent slices: the slices, and links as words (Lent), a link that may be none (Led), what the code answers
-- (Answers), what the checks of an entry and of a head answer (Seen, by Back, Place and Headed), and what the writes of
-- unlinking and pushing store (Written, Moves).
pub mod Lent
pub mod Led
pub mod Answers
pub mod Back
pub mod Place
pub mod Seen
pub mod Headed
pub mod Leading
pub mod Written
pub mod Moves
