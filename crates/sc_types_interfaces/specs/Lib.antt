pub mod Common
pub mod Prelude
pub mod Rules
pub mod Offering
pub mod Tables
