-- The resolved graph: what it is, and how it is made of the nodes at STOP and read off the rooms.

-- `Builder` on the node table: a walk that leaves a graph, what the graph's nodes stand for, their order, and how they are written out
pub mod Resolved
pub mod Ordered
pub mod Walk
pub mod Resolves
pub mod Resolving
pub mod Tree
pub mod Settled
pub mod Arrange
pub mod Inside
pub mod Dues
pub mod Compare
pub mod Whole
pub mod Moved
pub mod Written
pub mod Capacity
pub mod Ranges
pub mod Noted
pub mod Turns
pub mod WalkExamples
pub mod Fits
pub mod Shown
pub mod DuesRoom
pub mod Sums
pub mod Reached
-- lists: a node's kind and its list, in the rooms
pub mod Kinds
pub mod NodeList
-- texts: a node's text
pub mod Readable
pub mod Place
pub mod DecodedMeasure
pub mod Spell
pub mod TextsDue
-- siblings: each node's children side by side
pub mod LinkSums
pub mod ChildWords
pub mod Layout
pub mod Runs
pub mod SideBySide
pub mod LayoutExamples
-- the walk that measures and resolves: what its code reads and keeps, and what it ensures
pub mod Length
pub mod MeasureWord
pub mod Blocked
pub mod Facts
pub mod Known
pub mod Class
pub mod Loop
pub mod Ends
pub mod Standing
pub mod Rooted
