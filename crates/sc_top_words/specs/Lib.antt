pub mod Prelude
pub mod Application
pub mod Numbers
pub mod Ranges
pub mod Options
pub mod Usage
pub mod Words
