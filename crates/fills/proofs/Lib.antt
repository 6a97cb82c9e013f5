pub mod Puts
pub mod Sizes
