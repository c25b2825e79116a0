-- Bytes in a lent output, the text of numbers, and the value of a well-formed table that a call writes something of.
pub mod Decimal
pub mod Parse
pub mod Put
pub mod Whole
