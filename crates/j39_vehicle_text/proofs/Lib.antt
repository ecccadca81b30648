pub mod Behind
pub mod BlockLists
pub mod DelaysSoFar
pub mod KnownBuses
pub mod NoFindings
pub mod Reporting
pub mod WaySteps
pub mod WholeTexts
