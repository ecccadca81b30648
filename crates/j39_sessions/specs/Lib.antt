pub mod KeptSessions
pub mod SessionFrames
pub mod SessionLaws
pub mod Sessions
