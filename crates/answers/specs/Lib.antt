pub mod Kinds
pub mod Says
