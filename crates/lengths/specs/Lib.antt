-- Lengths added up, and the refusal where they do not come to the buffer's.
pub mod Sum
