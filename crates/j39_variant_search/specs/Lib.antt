pub mod VariantSearch
pub mod inside
