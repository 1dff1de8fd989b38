mod Alike
pub mod Common
pub mod Cuts
mod Faults
pub mod Fields
mod Found
pub mod Given
mod Joining
mod Keeping
mod Linked
mod Links
mod Named
mod Programs
mod Splitting
mod Turns
