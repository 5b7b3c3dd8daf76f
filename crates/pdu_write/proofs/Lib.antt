pub mod Packs
pub mod Frame
