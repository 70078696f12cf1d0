pub mod Calls
pub mod Records
pub mod Soundness
pub mod Supplies
