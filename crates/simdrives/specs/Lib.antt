pub mod Sims
pub mod Powers
pub mod Chances
