-- Out and back (RULES, Ask 6): a value's pickle is read back as that value, and no further. proofs/Theorem has it for tables,
-- Needed shows that each premise is needed. From Steps to Items and in proofs/Values it is about bytes and opcodes, in Tables about table
-- words; Returnable is the seam.
pub mod Added
pub mod WriteOut
pub mod Outcome
pub mod Steps
pub mod SetCalls
pub mod Returnable
pub mod Settled
pub mod Lines
pub mod Leaves
pub mod Adding
pub mod Items
pub mod Making
pub mod Reading
pub mod Tables
pub mod Theorem
pub mod Needed
