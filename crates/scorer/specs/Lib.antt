-- RULES, Ask 3: sheets and their scores.
pub mod Sheet
pub mod Call
pub mod Walk
pub mod Place
pub mod Steps
pub mod Root
pub mod Flip
pub mod Theorems
pub mod Examples
