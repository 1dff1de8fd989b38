pub mod Common
mod Bounds
pub mod Clear
pub mod HeapRuns
pub mod Induction
pub mod Matching
pub mod Owned
pub mod Plans
pub mod Refusals
pub mod Runs
pub mod Shapes
