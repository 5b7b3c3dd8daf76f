pub mod Asked
pub mod Ways
pub mod Effects
