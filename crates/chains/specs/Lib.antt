-- The lists of free blocks in memory, and the steps that change them. Read Links, Steps, then Chain.
pub mod Links
pub mod Steps
pub mod Chain
pub mod Strung
pub mod Legal
pub mod Closed
