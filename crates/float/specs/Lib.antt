-- FLOAT's text: its digits, its form, the nearest double, and what a literal says.
pub mod Digits
pub mod Form
pub mod Nearest
pub mod Scan
pub mod Literal
pub mod Examples
