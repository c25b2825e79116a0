-- What a value is, its order, its table, and when a table is well formed.
pub mod Value
pub mod Order
pub mod OrderLaws
pub mod Shape
pub mod Stands
pub mod Tabled
pub mod WellFormed
pub mod Walk
pub mod Told
pub mod Total
pub mod Labels
pub mod Left
