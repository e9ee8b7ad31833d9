pub mod Filled
pub mod Sent
pub mod Status
pub mod Waiting
