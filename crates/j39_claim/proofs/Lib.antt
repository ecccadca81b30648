pub mod Counts
pub mod FreeAddresses
pub mod Hearing
pub mod NotedAddresses
pub mod PoolBits
pub mod RisingNotes
pub mod WordSets
