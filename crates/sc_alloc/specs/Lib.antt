pub mod Common
pub mod Prelude
pub mod Places
pub mod Scan
