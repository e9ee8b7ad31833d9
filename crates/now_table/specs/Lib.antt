pub mod Answer
pub mod Now
pub mod Lines
