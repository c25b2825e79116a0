-- What de.rs's `parse` reads from the text of a number: what is trimmed, what the digits say, and what is refused.
pub mod Space
pub mod Number
pub mod Literal
pub mod Examples
pub mod Trims
pub mod Range
pub mod Characters
