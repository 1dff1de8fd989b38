pub mod Common
pub mod Bools
pub mod Filled
mod Firsts
pub mod Lists
pub mod Numbers
pub mod Texts
