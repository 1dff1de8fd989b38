pub mod Common
pub mod Kept
pub mod Loops
pub mod Noted
pub mod Ruled
pub mod Statements
