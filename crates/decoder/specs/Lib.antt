-- What each opcode's function answers.
pub mod Reads
pub mod ReadsPickle
pub mod Items
pub mod StackSteps
pub mod ReadsMemo
pub mod ReadsCalls
