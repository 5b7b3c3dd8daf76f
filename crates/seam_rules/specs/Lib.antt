pub mod Done
pub mod Memory
pub mod Kept
pub mod Seam
pub mod Follows
