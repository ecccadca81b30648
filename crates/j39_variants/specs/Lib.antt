pub mod ChoiceTables
pub mod DescribedLines
pub mod LineLaws
pub mod ListTables
pub mod NeverTables
pub mod VariantPlans
pub mod Variants
