-- A room whose beginning is made zero; the rooms and outputs of a reading.
pub mod Cleared
pub mod Stated
pub mod Lent
