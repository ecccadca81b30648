-- What only private contracts and proofs need.
pub mod AskedWithin
pub mod Auditing
pub mod Recalling
pub mod ResponseTimes
pub mod Sending
pub mod Singling
