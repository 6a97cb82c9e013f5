pub mod Sectors
pub mod Held
pub mod Shards
