pub mod Common
mod Allocated
mod Bodies
mod Callees
pub mod Calls
pub mod Facts
pub mod Functions
pub mod Lookups
pub mod Noted
mod Phases
pub mod Sections
pub mod Sources
mod Structs
pub mod TypedNodes
pub mod Verdicts
pub mod Whole
