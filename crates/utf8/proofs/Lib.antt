-- Laws that the proofs of the functions share.
mod Table
mod Pieces
mod Stores
