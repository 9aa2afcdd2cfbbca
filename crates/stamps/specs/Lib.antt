-- The tags that a change writes, in a slice: read Stores for what is left of it, and Bounds for what a caller must show.
-- Then the empty heap: Initial.
pub mod Stores
pub mod Bounds
pub mod Initial
