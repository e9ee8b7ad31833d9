pub mod Spots
pub mod Numbers
pub mod Named
pub mod Stops
pub mod Theorems
pub mod Once
