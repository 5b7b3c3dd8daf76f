pub mod Tests
pub mod Framed
pub mod Fields
pub mod Tlvs
pub mod Pairs
pub mod Requests
