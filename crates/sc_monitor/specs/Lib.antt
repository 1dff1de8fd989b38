pub mod Prelude
pub mod Laws
pub mod Matching
pub mod Places
pub mod Verdict
