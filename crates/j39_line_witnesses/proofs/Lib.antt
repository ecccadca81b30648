pub mod ChoiceLists
pub mod Earlier
pub mod Listing
pub mod Meeting
pub mod PartWitnesses
pub mod Reported
pub mod Within
