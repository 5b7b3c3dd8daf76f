pub mod Numbers
pub mod Fields
pub mod Layout
pub mod Reading
pub mod Decoding
pub mod PduLaws
pub mod PduCases
pub mod NumberLaws
