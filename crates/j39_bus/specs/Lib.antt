pub mod Stations
pub mod BusState
pub mod Reports
pub mod Stands
pub mod inside
pub mod Queued
