pub mod Common
mod Bare
mod Basics
mod Digits
mod Level
mod Lookup
mod Pieces
mod Reading
mod Rows
mod Top
