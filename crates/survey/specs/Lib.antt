pub mod Knowns
pub mod Moves
pub mod States
