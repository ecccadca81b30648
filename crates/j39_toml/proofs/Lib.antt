pub mod EachElement
pub mod FirstFaults
pub mod TreesRead
pub mod TableViews
