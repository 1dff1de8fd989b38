pub mod Common
pub mod Performing
pub mod Replaced
pub mod Names
