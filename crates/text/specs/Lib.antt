-- What RULES A7.6 and A7.7 say of STRING and UNICODE.
pub mod Pieces
pub mod Escapes
pub mod Text
pub mod Laws
pub mod Answers
pub mod Examples
