pub mod Zone
pub mod Gaps
pub mod Tables
pub mod Prelude
