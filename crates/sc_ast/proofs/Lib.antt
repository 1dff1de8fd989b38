pub mod Common
pub mod Induction
pub mod Layers
pub mod Params
pub mod Statements
