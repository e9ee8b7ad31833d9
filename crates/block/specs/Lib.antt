pub mod Answer
pub mod State
pub mod Scan
pub mod Held
pub mod Run
