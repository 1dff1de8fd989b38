pub mod Common
pub mod Performer
pub mod Laws
pub mod Recomposed
pub mod Performing
