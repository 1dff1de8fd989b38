pub mod Pages
pub mod Lends
