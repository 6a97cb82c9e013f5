pub mod Mapped
pub mod Asks
