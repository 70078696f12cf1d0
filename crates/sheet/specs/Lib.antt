pub mod Code
pub mod Readers
