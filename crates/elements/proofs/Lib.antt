pub mod Words
pub mod Steps
pub mod Table
pub mod Blends
