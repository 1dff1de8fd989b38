pub mod Prelude
pub mod Legal
pub mod Line
pub mod Lookup
pub mod OpenCall
pub mod Part
pub mod Sets
pub mod Standing
