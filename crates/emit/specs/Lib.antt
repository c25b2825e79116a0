-- The order of nodes, Sets and Dicts put in order, and a value's table and text written: what the code means.

-- order: the order of two nodes
pub mod Label
pub mod Ranks
-- arrange: Sets and Dicts in order, on nodes: entries in a list, the place of a key, and what the settling of one node after the other leaves
pub mod Entries
pub mod Search
pub mod Moves
pub mod Arranging
pub mod Due
pub mod Ascending
pub mod Walked
pub mod Standing
pub mod SettlingTurn
pub mod Settling
pub mod Enough
-- the value written
pub mod Stores
pub mod Copies
pub mod Words
pub mod Places
pub mod Leaves
pub mod Since
pub mod Calls
pub mod Turns
pub mod Roots
pub mod Examples
