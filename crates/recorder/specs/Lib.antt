pub mod Recording
pub mod Tied
