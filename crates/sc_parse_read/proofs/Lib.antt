pub mod Common
pub mod Existence
pub mod Pieces
pub mod Splits
pub mod Steps
pub mod Uniqueness
