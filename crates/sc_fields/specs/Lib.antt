pub mod Prelude
pub mod Bytes
pub mod Reading
