-- What only private contracts and proofs need.
pub mod SendableGroups
pub mod Claims
pub mod Content
pub mod Receivers
pub mod KeptMessages
pub mod Network
-- What only proofs need.
pub mod Rows
