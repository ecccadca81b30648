pub mod CommandLaws
pub mod StampNumbers
