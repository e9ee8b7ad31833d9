pub mod Pieces
pub mod Room
pub mod Text
