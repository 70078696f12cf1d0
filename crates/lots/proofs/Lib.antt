pub mod LotCounts
pub mod Walks
