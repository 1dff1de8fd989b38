pub mod Prelude
pub mod Word
pub mod CArithmetic
pub mod Machine
pub mod Agreement
pub mod OnAllWords
