-- What a line says beside its frame.
pub mod FirstWords
pub mod Interfaces
pub mod Splitting
pub mod TimeNumbers
pub mod Times
pub mod WordPlaces
