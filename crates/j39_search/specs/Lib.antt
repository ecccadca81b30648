pub mod Adding
pub mod ListPlaces
pub mod Order
