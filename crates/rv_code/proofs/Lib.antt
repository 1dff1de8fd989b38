pub mod Fields
pub mod Ops
pub mod OneEach
