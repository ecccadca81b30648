pub mod Answers
pub mod AuditAnswers
pub mod Faults
pub mod Known
pub mod PlanCommands
pub mod Status
pub mod VehicleAnswers
