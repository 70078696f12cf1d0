pub mod Laws
pub mod Words
pub mod Lines
pub mod Whole
