pub mod Common
pub mod Words
pub mod Start
pub mod Callees
pub mod Runs
mod Blocks
