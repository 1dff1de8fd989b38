pub mod Common
pub mod Prelude
pub mod Broken
pub mod Declarations
pub mod Interfaces
pub mod Names
