pub mod Blanking
pub mod Lastings
pub mod Payments
pub mod Verdicts
