-- The profile for plain data (RULES, Ask 7) against the full reader: step by step, over the readings, of the public calls.
pub mod Alike
pub mod Readings
pub mod Classless
pub mod Calls
