pub mod Kept
mod Levels
