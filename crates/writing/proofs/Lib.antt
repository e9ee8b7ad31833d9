pub mod Opening
pub mod Pieces
pub mod Passes
pub mod Theorems
pub mod Once
