-- What two plans that report a NAME as one unit make of one log.
pub mod Ends
pub mod Lines
pub mod Parties
pub mod Reports
pub mod Texts
pub mod Units
