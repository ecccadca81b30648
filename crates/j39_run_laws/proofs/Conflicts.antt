pub mod ConflictShown
