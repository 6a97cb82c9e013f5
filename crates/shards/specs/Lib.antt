pub mod Shards
