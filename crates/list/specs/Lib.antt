-- The listing of a value (RULES A9), and the call that writes it.
pub mod Listing
pub mod Examples
pub mod Back
pub mod Verbatim
pub mod Walk
pub mod One
pub mod Call
