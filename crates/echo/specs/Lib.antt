pub mod Echoes
pub mod Twices
pub mod Tied
