pub mod Common
pub mod Prelude
pub mod Blocks
pub mod Calls
pub mod Following
pub mod Frames
pub mod Stretches
pub mod Operators
