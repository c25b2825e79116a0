-- What the proofs cite: the loops' turns and the functions' parts, a record by its kind.
pub mod Laws
pub mod Record
