pub mod Common
pub mod Prelude
pub mod Called
pub mod Sections
pub mod Stands
