pub mod Parts
pub mod Told
pub mod Pieces
pub mod Running
