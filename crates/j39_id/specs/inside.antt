-- What only private contracts and proofs need.
pub mod Cutting
pub mod LineEnd
