pub mod Lists
pub mod Rooms
pub mod Does
pub mod Weights
pub mod Answers
pub mod Laws
pub mod Examples
