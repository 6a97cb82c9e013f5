pub mod Alike
pub mod Mirror
pub mod Lents
pub mod Turns
