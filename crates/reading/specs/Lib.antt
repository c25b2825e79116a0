-- What Builder makes of the nodes at STOP, and the two readings of a pickle; with the laws that each is built on.
pub mod Build
pub mod Graph
pub mod Unfold
pub mod Fuel
pub mod Shallow
pub mod Form
pub mod Measure
pub mod Measures
pub mod Settle
pub mod Smaller
pub mod Sorted
pub mod Reading
pub mod Well
pub mod Refs
pub mod Letters
pub mod Success
pub mod Bench
