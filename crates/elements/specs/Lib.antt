pub mod Accepted
pub mod Blended
pub mod Bytes
