pub mod Filled
pub mod Parts
pub mod Settled
