-- What only private contracts and proofs need.
pub mod Checksums
pub mod OrderWords
pub mod WordValues
pub mod UnitIndexes
