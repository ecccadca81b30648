pub mod ForwardFaults
pub mod Spreading
