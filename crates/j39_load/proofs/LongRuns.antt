-- What a bus that keeps to a plan carries in a long time.
pub mod Streams
pub mod Rates
pub mod Frames
pub mod Flows
pub mod Units
pub mod Damage
pub mod Loads
