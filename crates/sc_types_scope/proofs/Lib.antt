pub mod Common
pub mod Heads
pub mod Lines
pub mod Noted
pub mod OneMore
pub mod Statements
