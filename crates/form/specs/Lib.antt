pub mod Sheets
pub mod Reading
pub mod Theorem
