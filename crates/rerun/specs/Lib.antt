pub mod Answer
pub mod Replay
pub mod Turn
