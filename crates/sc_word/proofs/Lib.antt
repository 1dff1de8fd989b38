pub mod Common
pub mod Words
pub mod Below
pub mod OnAllWords
