-- The laws that the functions' proofs share.
pub mod LawsMemo
pub mod LawsCalls
pub mod LawsPickle
