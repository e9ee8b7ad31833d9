pub mod Array
pub mod Changed
pub mod Loaded
