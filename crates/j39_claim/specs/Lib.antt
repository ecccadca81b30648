pub mod AddressSets
pub mod ClaimRule
pub mod ClaimerValue
pub mod ExactAnswer
pub mod inside
