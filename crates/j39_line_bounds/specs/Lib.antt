pub mod LineStandings
pub mod LineTimes
pub mod inside
