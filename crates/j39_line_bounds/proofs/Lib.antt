pub mod EachTimes
pub mod Standings
pub mod ReportedNumbers
pub mod UnitPlaces
pub mod WorstTimes
