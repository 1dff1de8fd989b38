pub mod Allocating
pub mod Common
pub mod Heaps
pub mod Laying
pub mod Living
pub mod Memories
pub mod Removing
pub mod Storing
