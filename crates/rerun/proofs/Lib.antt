pub mod Rows
pub mod Files
pub mod Filling
pub mod Turns
pub mod Passing
pub mod Stops
pub mod Theorems
pub mod Once
