pub mod Common
pub mod Prelude
pub mod Emission
pub mod Layout
pub mod Naming
pub mod Repeating
pub mod Shapes
