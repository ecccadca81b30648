pub mod Refill
pub mod RefillErrors
pub mod RefillTraffic
