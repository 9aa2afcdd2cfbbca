-- The writes that make a block, as they stand in the arena (Made), and what of it is left, as the script answers it (Left).
pub mod Made
pub mod Left
