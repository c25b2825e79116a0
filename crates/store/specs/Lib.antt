-- What the machine's rooms say of its state, and what an effect does to them.
pub mod NodeFits
pub mod Rooms
pub mod RoomExamples
pub mod RoomLists
pub mod RoomMemo
pub mod RoomLaws
pub mod RoomReads
pub mod RoomKeeps
pub mod RoomLinks
pub mod Effects
