pub mod Lawful
pub mod Shows
