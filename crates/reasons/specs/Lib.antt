pub mod Given
pub mod Reasons
pub mod Fits
