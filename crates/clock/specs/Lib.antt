pub mod Clock
pub mod Spelled
pub mod Planned
