pub mod Derived
pub mod Lines
pub mod NamedChoices
pub mod OnePlans
pub mod Picking
pub mod Places
pub mod Searching
