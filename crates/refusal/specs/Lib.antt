-- What RULES A4 says of refusals, and the shape of what a leaf of the reader says.
pub mod Numbers
pub mod Read
