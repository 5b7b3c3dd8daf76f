pub mod Pick
pub mod Bytes
pub mod Laid
pub mod Lists
