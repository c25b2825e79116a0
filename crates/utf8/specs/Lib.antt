-- What Unicode chapter 3 says of UTF-8, and what follows from it.
pub mod Utf8
pub mod Rows
pub mod Laws
pub mod Encode
pub mod Place
pub mod Together
pub mod Stores
