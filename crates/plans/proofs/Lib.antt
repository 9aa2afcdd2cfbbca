-- What is proved of the definitions in specs/.
pub mod Checked
pub mod Costs
pub mod Few
pub mod FewChecks
pub mod Lengths
pub mod Planned
pub mod StorableCalls
pub mod StorableParts
pub mod StorableRegion
pub mod StorableElsewhere
pub mod StorableResize
