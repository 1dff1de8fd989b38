pub mod Common
pub mod Examples
pub mod Loops
pub mod Lengths
pub mod Sizes
