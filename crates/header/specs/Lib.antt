-- A word turned so that one comparison tells whether it leads to a grain, and what a size word tells of a block.
pub mod Turned
pub mod Told
