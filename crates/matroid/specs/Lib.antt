pub mod Sets
pub mod Matroids
pub mod Bases
pub mod Circuits
pub mod Theorems
pub mod Questions
pub mod Outcomes
