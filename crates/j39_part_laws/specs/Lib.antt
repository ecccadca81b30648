pub mod ByAbsence
pub mod PartDelays
pub mod PartLoads
pub mod PlanParts
pub mod Shares
pub mod Sublists
