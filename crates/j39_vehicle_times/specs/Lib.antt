pub mod BusDelays
pub mod FoundTimes
pub mod inside
pub mod TimeFindings
pub mod Times
