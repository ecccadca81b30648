pub mod Bits
pub mod Laid
pub mod LayoutParts
pub mod Parts
pub mod Places
pub mod Refusals
pub mod Selectors
pub mod State
