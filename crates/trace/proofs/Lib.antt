pub mod Changes
pub mod Scans
pub mod Rows
pub mod Numbered
pub mod Theorems
