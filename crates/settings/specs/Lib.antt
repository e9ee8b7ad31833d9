pub mod Causes
pub mod Refusals
pub mod Right
pub mod Signals
pub mod Zeros
