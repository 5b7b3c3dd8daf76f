pub mod Scan
pub mod Accepted
