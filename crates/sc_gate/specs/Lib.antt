pub mod Waiting
pub mod Clearing
