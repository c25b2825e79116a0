-- The machine's step and run in the rooms that are lent.

-- the effects on the rooms
pub mod Done
pub mod Push
pub mod Links
pub mod Containers
pub mod Words
pub mod Memo
-- a step, the run
pub mod RoomsOf
pub mod Ran
pub mod Applied
