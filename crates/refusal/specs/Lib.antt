-- What a refusal is as a number, and answers read as results of a script: read Number, then Answered.
pub mod Number
pub mod Answered
