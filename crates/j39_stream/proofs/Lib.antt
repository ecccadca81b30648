pub mod Answering
pub mod LineReading
pub mod Parts
pub mod PieceSteps
pub mod StreamSteps
