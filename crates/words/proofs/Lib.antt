pub mod Eliminated
pub mod Pivots
pub mod Rows
pub mod Reduced
pub mod WordOutcomes
