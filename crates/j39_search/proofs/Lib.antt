pub mod AddingLemmas
pub mod Deciding
pub mod Families
pub mod Members
pub mod PlaceLemmas
pub mod Rising
pub mod WantedMemory
