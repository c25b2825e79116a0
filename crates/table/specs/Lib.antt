-- The value table of RULES A2: whether a lent one is well formed, the length of its text, and what compare answers.
pub mod Find
pub mod Complete
pub mod Record
pub mod Sound
pub mod Names
pub mod Items
pub mod Check
pub mod Decides
pub mod Verdict
pub mod Compare
pub mod CompareLaws
pub mod Call
pub mod Length
pub mod Examples
