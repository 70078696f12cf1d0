pub mod Meanings
pub mod Names
pub mod Plans
pub mod Promises
pub mod Texts
