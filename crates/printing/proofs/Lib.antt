pub mod Parts
pub mod Handed
pub mod Fronts
pub mod Turn
pub mod Theorems
