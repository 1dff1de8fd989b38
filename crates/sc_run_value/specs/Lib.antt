pub mod Common
pub mod Prelude
pub mod Access
pub mod Assigning
pub mod Evaluation
pub mod Where
pub mod Plans
