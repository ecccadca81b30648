-- What is asked and answered.
pub mod Exchanged
pub mod Noted
