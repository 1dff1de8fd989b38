pub mod Common
pub mod Fitting
