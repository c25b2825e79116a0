-- What the proofs cite: the loops' turns.
pub mod Laws
