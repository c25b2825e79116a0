-- Laws of every run of the machine and of both readings, over the definitions.
pub mod Inner
pub mod InnerSteps
pub mod Numbers
pub mod Steps
pub mod Carried
pub mod Late
