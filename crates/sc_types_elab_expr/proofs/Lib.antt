pub mod Common
pub mod Parts
pub mod Scopes
pub mod Small
