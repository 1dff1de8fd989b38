pub mod Texts
pub mod Replay
