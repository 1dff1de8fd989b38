pub mod Common
pub mod Accepted
mod ChainFollowing
mod ChainLoop
mod ChainMachine
mod ChainTrace
mod ChainTexts
pub mod Joined
mod Lengths
pub mod OwnImages
pub mod Recomposed
pub mod Rows
pub mod Safety
pub mod Words
pub mod Trapped
