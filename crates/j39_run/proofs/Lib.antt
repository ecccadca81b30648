pub mod Continuations
pub mod Done
pub mod Frames
pub mod Quiet
pub mod RunLists
pub mod Runs
pub mod Texts
