-- The numbers of a machine: the only place where they stand.
pub mod Machine
