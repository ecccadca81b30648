-- What was sent, and how often.
pub mod EndLines
pub mod Numbered
pub mod Tallied
pub mod ToAll
