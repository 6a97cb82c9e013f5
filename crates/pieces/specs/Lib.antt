pub mod Hands
pub mod Quorums
pub mod Refusals
