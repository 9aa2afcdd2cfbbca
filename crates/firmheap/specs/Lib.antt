-- The heap's calls: their answers as replies, and how plan and apply make each call. What is promised of the calls is in the
-- crate calls.
pub mod Replies
pub mod Contract
pub mod Take
pub mod Return
pub mod Resize
pub mod Begin
pub mod Give
