-- What a call leaves in the slices where it moves a payload. Read Carry first; the other files have the laws behind its laws.
pub mod Alike
pub mod Carry
pub mod Words
pub mod Differs
