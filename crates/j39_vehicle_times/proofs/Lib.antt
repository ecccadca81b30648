pub mod Nanoseconds
pub mod DecidingTimes
pub mod Feeding
pub mod Hops
pub mod Sums
pub mod TimeLaws
pub mod Youngest
