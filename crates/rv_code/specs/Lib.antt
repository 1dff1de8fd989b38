pub mod Prelude
pub mod Ranges
pub mod Table
pub mod Words
pub mod Decoding
pub mod Registers
