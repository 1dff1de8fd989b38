pub mod Common
pub mod Prelude
pub mod Acceptance
pub mod Counts
pub mod Measured
pub mod Source
pub mod Starts
pub mod TreeNodes
