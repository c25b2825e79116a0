-- What the proofs cite: the loops' turns, a record by its kind, the walk over values.
pub mod Laws
pub mod Record
pub mod Walk
