-- What is shown of a run.
pub mod Shown
