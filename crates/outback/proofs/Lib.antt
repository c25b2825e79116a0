-- What rests on the premise on Objects: every returnable value returns, and so out and back.
pub mod Values
pub mod Reading
pub mod Theorem
