-- Reading and then scoring (RULES A1.3 with Ask 3.5) over the contracts of the readings and the score call.
pub mod Sharing
pub mod Clinic
