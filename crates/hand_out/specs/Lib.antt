-- Which block is handed out, found by checks alone; and what is written for it.
pub mod Demand
pub mod Answers
pub mod First
pub mod Search
pub mod Take
