pub mod Tlv
pub mod Reader
pub mod Directive
