pub mod Utf8
pub mod Checksum
pub mod ChecksumCases
