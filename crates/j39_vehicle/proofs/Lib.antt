mod EachFound
pub mod FoundPlaces
pub mod Names
pub mod Units
pub mod UnitsOf
pub mod EmptyFile
