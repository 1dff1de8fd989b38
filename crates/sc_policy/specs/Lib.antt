pub mod Prelude
pub mod Limits
pub mod Lines
pub mod Policies
pub mod Reading
pub mod Index
pub mod Rules
pub mod Words
