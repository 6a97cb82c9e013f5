pub mod Hex
pub mod Commands
pub mod Reading
