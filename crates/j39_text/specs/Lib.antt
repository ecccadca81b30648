pub mod Decimals
pub mod FrameText
pub mod Labels
pub mod Quotations
pub mod Texts
