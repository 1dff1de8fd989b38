pub mod Common
pub mod Lists
pub mod Loads
pub mod Shifts
pub mod Operands
pub mod Planning
