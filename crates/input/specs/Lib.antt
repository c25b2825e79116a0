-- What the reader takes from the pickle's bytes: numbers of fixed width, lines, and the integers of LONG1 and LONG4.
pub mod Bytes
pub mod Line
pub mod Long
pub mod Rule01
