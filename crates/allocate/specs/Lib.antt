-- Taking a block: what is asked for (Demand), what the checks of a list's first block (First) and of the rest (Rest) answer,
-- and what a plan of a take says (Plan).
pub mod Demand
pub mod First
pub mod Rest
pub mod Plan
