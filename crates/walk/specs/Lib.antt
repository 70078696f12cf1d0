pub mod Stages
pub mod Walked
