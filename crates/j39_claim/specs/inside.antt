-- What only private contracts and proofs need.
pub mod AddressWords
pub mod Noting
