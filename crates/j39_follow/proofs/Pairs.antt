-- What each pair of addresses heard, in order and in whatever order.
pub mod AsSent
pub mod Collecting
pub mod InOrder
pub mod Ways
