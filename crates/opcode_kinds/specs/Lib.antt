-- The opcodes against pickletools in what their rows in crate op leave open: the kinds of the values taken and left, and the protocol.
pub mod StackWords
pub mod Kinds
pub mod Protocol
pub mod Examples
