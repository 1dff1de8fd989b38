pub mod Check
pub mod Made
pub mod Making
pub mod Report
pub mod Summary
pub mod Verdict
