pub mod Weakened
