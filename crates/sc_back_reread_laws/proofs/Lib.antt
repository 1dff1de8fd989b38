pub mod Common
pub mod Nesting
pub mod Values
pub mod Actions
pub mod Rows
pub mod Heads
pub mod Functions
pub mod Performing
pub mod Reading
pub mod Headings
pub mod Splitting
pub mod Joining
pub mod Headless
pub mod Replaced
pub mod Names
pub mod Sizes
mod Examples
