pub mod Looks
pub mod Stands
