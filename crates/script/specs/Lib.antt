pub mod Numbers
pub mod Orders
pub mod Weaks
