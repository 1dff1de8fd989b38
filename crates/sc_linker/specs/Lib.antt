pub mod Common
pub mod Prelude
pub mod Image
pub mod Interfaces
pub mod Laws
pub mod Layout
pub mod Linkable
pub mod Sections
