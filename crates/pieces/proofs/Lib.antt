pub mod LostRows
pub mod Pieces
