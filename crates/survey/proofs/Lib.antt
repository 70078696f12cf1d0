mod Following
mod Listing
mod Paying
mod Refusing
pub mod Running
