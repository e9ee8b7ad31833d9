pub mod Placing
pub mod Records
pub mod Loop
pub mod Theorems
