pub mod Aging
pub mod Chains
pub mod DirectFaults
