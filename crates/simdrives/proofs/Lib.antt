pub mod Undone
pub mod Slotted
