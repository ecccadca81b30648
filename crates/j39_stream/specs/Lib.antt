pub mod CommandEnds
pub mod Intakes
pub mod LineReading
pub mod Streams
