pub mod Common
pub mod Fields
pub mod Loops
pub mod Compartments
