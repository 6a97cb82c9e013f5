pub mod Planned
pub mod Hearing
pub mod Standing
