pub mod AuditEnds
pub mod BusesRead
pub mod Ending
pub mod WholeInputs
