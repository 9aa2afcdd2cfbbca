-- What the heap is. Read Blocks, Lists and Calls, in this order; Units turns bytes into their numbers. Run and Cases
-- compute documented answers.
pub mod Blocks
pub mod Lists
pub mod Calls
pub mod Units
pub mod Run
pub mod Cases
