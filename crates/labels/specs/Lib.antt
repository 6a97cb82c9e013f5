pub mod Restricted
pub mod Times
