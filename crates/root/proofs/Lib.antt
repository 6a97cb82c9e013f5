pub mod Labels
pub mod Root
