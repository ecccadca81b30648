-- What only private contracts and proofs need.
pub mod AskedShares
pub mod Broadcasting
pub mod Extremes
pub mod FlowSearch
pub mod FewClaims
pub mod FewFrames
pub mod FrameParts
pub mod PlannedBuses
pub mod BufferingDelays
pub mod TurnTimes
