pub mod Enumerating
pub mod EveryVariant
pub mod LeftOutNevers
pub mod OneOf
pub mod Ranking
pub mod Shown
pub mod Tests
pub mod Witnesses
