pub mod Common
pub mod Bodies
pub mod Cells
pub mod Kinded
pub mod Pieces
pub mod Results
pub mod Sections
pub mod Values
