pub mod Numbers
pub mod Given
pub mod Exactly
pub mod Lands
pub mod Changed
pub mod Bounds
