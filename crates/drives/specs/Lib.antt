pub mod Drives
pub mod Machines
pub mod Layers
pub mod Simulation
pub mod Spelling
