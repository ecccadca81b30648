pub mod Answered
pub mod Fresh
pub mod Recalled
pub mod Right
pub mod Steps
pub mod Told
