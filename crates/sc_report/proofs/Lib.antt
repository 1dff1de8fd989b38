pub mod Common
pub mod Counting
pub mod Pieces
