-- A night's sheets read by one call (RULES, Ask 1).
pub mod Batch
pub mod Sheets
pub mod Each
pub mod Theorems
pub mod Example
