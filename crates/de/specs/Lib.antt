-- What building at STOP asks and comes to, what the inner reading asks and leaves, and what the public readings promise.

-- building: what each pass leaves is what the next asks for; what a run's answer gives of crate reading's readings
pub mod Rooms
pub mod Measured
pub mod Texts
pub mod Spelt
pub mod Made
pub mod Steps
pub mod Building
pub mod Limits
pub mod Laid
pub mod Given
-- the readings
pub mod Inner
pub mod Call
pub mod Theorems
pub mod Shared
