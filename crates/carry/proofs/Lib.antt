-- What is proved of the definitions in specs/.
pub mod Alike
pub mod Carry
pub mod Differs
pub mod Words
