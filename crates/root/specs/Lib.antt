pub mod Root
pub mod Labels
