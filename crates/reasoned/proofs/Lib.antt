pub mod Told
pub mod Last
pub mod Rows
pub mod Theorems
