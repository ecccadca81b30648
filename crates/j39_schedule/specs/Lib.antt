pub mod LineFaults
pub mod Schedule
pub mod Scheduling
pub mod StepLines
pub mod inside
