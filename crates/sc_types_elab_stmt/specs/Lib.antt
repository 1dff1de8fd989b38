pub mod Common
pub mod Prelude
pub mod Args
pub mod Judging
pub mod Seen
pub mod Statements
