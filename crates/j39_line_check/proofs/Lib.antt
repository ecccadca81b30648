pub mod Adding
pub mod Assembled
pub mod CountedReported
pub mod CountingRanks
pub mod FindingKinds
pub mod Had
pub mod NothingReported
pub mod Pairs
pub mod ReportedInOrder
pub mod ReportedOfLine
pub mod TakenFull
pub mod Timed
pub mod WithoutNevers
mod AskedKept
mod KeptConditions
mod TakenReported
mod ReportedLaws
mod ReportedOfLines
pub mod CountedOfVariants
pub mod Counts
pub mod Enumerated
pub mod Filters
pub mod VariantsLookedAt
pub mod NeedLists
pub mod OfSets
pub mod OneNumber
pub mod Sets
pub mod Widest
