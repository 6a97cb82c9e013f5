pub mod Coding
pub mod Stripes
