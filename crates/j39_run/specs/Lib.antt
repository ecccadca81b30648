pub mod RunText
pub mod Views
pub mod inside
