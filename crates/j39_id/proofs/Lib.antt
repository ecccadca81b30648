pub mod CutLines
pub mod DigitTable
pub mod Digits
pub mod LastWord
pub mod LineEnd
pub mod LineLaws
pub mod SameFrame
