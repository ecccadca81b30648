pub mod AddedFindings
pub mod Inserted
