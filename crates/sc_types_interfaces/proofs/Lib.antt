pub mod Common
pub mod Allowing
pub mod Bare
pub mod Offered
pub mod Placing
pub mod Steps
pub mod Reporting
pub mod Texts
