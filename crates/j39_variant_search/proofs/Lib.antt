pub mod Beginning
pub mod Counts
pub mod InBoxes
pub mod Leaving
pub mod NoneBy
pub mod Pieces
