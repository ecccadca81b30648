-- What only private contracts and proofs need.
pub mod Catalogs
pub mod FirstFlows
pub mod NameTables
pub mod ReadSoFar
pub mod ValueLines
