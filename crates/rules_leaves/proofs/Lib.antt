pub mod Utf8
pub mod Xor
pub mod Sums
