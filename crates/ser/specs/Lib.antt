-- The bytes of a value (RULES A8), and what the writer's functions promise.
pub mod Image
pub mod Examples
pub mod Walk
pub mod Parts
pub mod Short
pub mod Length
pub mod Back
pub mod Writable
pub mod Call
