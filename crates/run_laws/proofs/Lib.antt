-- The laws that rest on which numbers are a whole call's, and on what a list or a dict is.
pub mod InnerSteps
pub mod Numbers
pub mod Carried
pub mod Late
