-- What rests on the kinds that every opcode takes and leaves.
pub mod Steps
