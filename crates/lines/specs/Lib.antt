pub mod Fields
pub mod Calls
pub mod Fits
pub mod Replies
pub mod Means
pub mod Order
pub mod Kinds
pub mod Turns
