pub mod Common
pub mod Words
pub mod Parts
pub mod Places
pub mod Counts
