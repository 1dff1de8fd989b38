pub mod Common
pub mod First
pub mod Reading
pub mod Steps
