pub mod Between
pub mod KeepsEnds
pub mod HolderReports
pub mod ReportedFlows
pub mod VehicleRuns
pub mod Makes
