pub mod Common
pub mod Prelude
pub mod Text
pub mod Rows
pub mod Tree
pub mod Replacing
pub mod Sections
