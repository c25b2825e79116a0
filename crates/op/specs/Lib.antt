-- The table of opcodes, and the editions.
pub mod Table
pub mod Named
pub mod Edition
