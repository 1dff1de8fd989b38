pub mod Common
pub mod Verdicts
pub mod Places
