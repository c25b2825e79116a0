-- Out and back (RULES, Ask 6) over the contracts of the write call and the prefix reading.
pub mod Calls
