pub mod Laws
pub mod Sane
