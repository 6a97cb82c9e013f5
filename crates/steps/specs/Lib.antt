pub mod Steps
pub mod Ties
pub mod Stacks
pub mod Stacked
pub mod Does
