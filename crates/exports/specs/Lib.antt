-- What C hears of the calls. Read Answers first, then Contracts.
pub mod Answers
pub mod Least
pub mod Contract
pub mod Answered
