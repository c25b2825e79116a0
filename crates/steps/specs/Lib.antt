-- The machine of de.rs, with nothing of its code: its state, a definition for each opcode, and the run to STOP; from Out on, laws of
-- every step; and how a node is packed into two words.
pub mod State
pub mod Opcodes
pub mod Run
pub mod Examples
pub mod Out
pub mod Effect
pub mod Parts
pub mod Arguments
pub mod Pickletools
pub mod Keeps
pub mod Shrinks
pub mod Fuel
pub mod Memo
pub mod Limits
pub mod Range
pub mod Changes
pub mod Shape
pub mod NodeWords
