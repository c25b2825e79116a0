-- What crate run_laws has of the readings, of the two public calls.
pub mod Numbers
pub mod Late
pub mod Worked
